use Rattle.lsl_view.proofs.Members.{views_are_of_the_source}
use Rattle.lsl_view.proofs.laws.views_are_of_the_source.Goals as goal

pub returns : goal.returns
returns c = views_are_of_the_source
