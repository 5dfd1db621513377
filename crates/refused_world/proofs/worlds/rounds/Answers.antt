use Rattle.refused_world.proofs.worlds.rounds.Goals as goal

pub returns : goal.returns
returns g c =
    let goes = c.step.ensures.goes in (goes.0, goes.1, λ programs w is. goes.2 c.requires.plain programs w is)
