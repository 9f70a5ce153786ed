use Rattle.arc_served.proofs.served.is_served.Goals as goal

pub returns-then-are_served_vars : goal.returns-then-are_served_vars
returns-then-are_served_vars c =
    let greatest = rw c.caps.ensures at (c.are_greatest.ensures.0 c.if-not-are_greatest.false) in
    let classes = rw c.classes.ensures.value at (c.are_served_classes.ensures.0 c.if-not-are_served_classes.false) in (
      λ yes. record {
        threads = rw c.as_slice-then-are_served_vars.ensures at (c.are_served_threads.ensures.0 yes);
        classes = classes;
        globals = rw c.as_slice.ensures at (c.are_served_vars.ensures.0 c.if-are_served_vars.true);
        strong_cap = greatest.0;
        unowned_cap = greatest.1;
        wide_cap = greatest.2;
      },
      λ served. c.are_served_threads.ensures.1 (rw c.as_slice-then-are_served_vars.ensures served.threads),
    )
