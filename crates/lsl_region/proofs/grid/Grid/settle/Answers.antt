use Rattle.std.proofs.Common.{◌∙◌, subst, sym}
use Rattle.std.specs.Prelude.{Option, Some}
use Rattle.lsl_script.specs.declared.live.Live.{Live}
use Rattle.lsl_region.specs.Grids.{AreSeated, Contents}
use Rattle.lsl_region.proofs.Coming.{seated-with}
use Rattle.lsl_region.proofs.Stops.{stands-settled}
use Rattle.lsl_region.specs.Scenes.{IsHome, IsInTurn}
use Rattle.lsl_region.proofs.Scenes.{set-kept}
use Rattle.lsl_region.proofs.grid.Grid.settle.Goals as goal

pub returns-in_ok-script-clause-does : goal.returns-in_ok-script-clause-does
returns-in_ok-script-clause-does c = λ w turn.
    let scene = c.args.scene.now in
    let k = c.requires.set.unit in
    let h = subst (λ (l : Option Live). IsInTurn scene c.args.self.now l w)
    (sym c.take.ensures.value ∙ c.in-Some.is) turn in
    subst (λ (g : Contents). IsHome scene g w) (sym (c.put_back.ensures.seats k.seat k.at))
    (stands-settled scene.library.now scene.unit.now scene.clock scene.place c.args.self.now c.in-Some.live w h
    c.in_ok-script.script
    (c.in_ok-script.ensures.source scene.library.now h.member.script h.flight h.rests) k.seat k.at)

pub returns-in_ok-script-clause-grid : goal.returns-in_ok-script-clause-grid
returns-in_ok-script-clause-grid c =
    let scene = c.args.scene.now in
    let k = c.requires.set.unit in
    record {
      set = set-kept c.requires.set c.put_back.ensures.outline
          (subst (λ (g : Contents). AreSeated scene.library.now g.seats)
          (sym (c.put_back.ensures.seats k.seat k.at))
          (seated-with scene.library.now scene.unit.now c.args.self.now scene.place
          k.seat (Some c.in_ok-script.script) c.requires.set.seated k.at k.has c.in_ok-script.ensures.fits));
      outline = c.put_back.ensures.outline;
    }
