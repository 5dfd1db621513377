use Rattle.lsl_image.specs.Layout.{Layout}
use Rattle.lsl_image.specs.SpellingLaws.{IsReadAsSpelled, IsSpelledAsRead}
use Rattle.lsl_image.proofs.SpellingLemmas.{given-spelled, spelled-gives}
use Rattle.lsl_image.proofs.laws.spelled_and_read.Goals as goal

both_ways : {A : Type 0} (layout : Layout A) → IsReadAsSpelled layout × IsSpelledAsRead layout
both_ways layout = (
  λ bytes place a part next stands spells. spelled-gives bytes layout place a part next stands spells,
  λ bytes place a next inside gives. let spelled = given-spelled bytes layout place a next inside gives in
      (spelled.part, spelled.stands, spelled.spells),
)

pub returns : goal.returns
returns c = record { objects = λ layout. both_ways layout; worlds = λ layout. both_ways layout }
