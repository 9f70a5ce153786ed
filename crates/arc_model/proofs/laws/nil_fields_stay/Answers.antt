use Rattle.arc_model.proofs.Fields.{nil_fields_stay}
use Rattle.arc_model.proofs.laws.nil_fields_stay.Goals as goal

pub returns : goal.returns
returns c = nil_fields_stay
