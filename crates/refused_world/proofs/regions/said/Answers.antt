use Rattle.refused_world.proofs.regions.said.Goals as goal

pub returns : goal.returns
returns c = c.say.ensures.does
