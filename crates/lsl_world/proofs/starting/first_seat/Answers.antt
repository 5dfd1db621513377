use Rattle.std.proofs.Common.{ap, sym, ◌∙◌}
use Rattle.std.specs.Prelude.{List, ℕ, Some}
use Rattle.lsl_post.specs.declared.parts.ScriptParts.{ScriptParts}
use Rattle.lsl_region.specs.declared.grid.Seat.{Seat}
use Rattle.lsl_world.proofs.starting.first_seat.Goals as goal

pub returns-clause-seat : goal.returns-clause-seat
returns-clause-seat c =
    let has = sym c.unit.ensures.unit in
    let object = c.args.object in
    let prim = c.args.prim in
    let unit = c.args.line.now.file in
    ap (λ (name : List ℕ). let seat : Seat = record {
      object = object;
      prim = prim;
      name = name;
      unit = unit;
      script = Some c.in_ok-script.script;
    } in seat) c.in_ok-name.ensures
    ∙ ap (λ (parts : ScriptParts). let seat : Seat = record {
      object = object;
      prim = prim;
      name = c.args.line.now.name;
      unit = unit;
      script = Some parts;
    } in seat) (c.in_ok-script.ensures.script c.args.units.now has)

pub returns-clause-seated : goal.returns-clause-seated
returns-clause-seated c =
    let has = sym c.unit.ensures.unit in
    record {
      unit = c.unit.result.now;
      has = has;
      fits = c.in_ok-script.ensures.fits;
    }
