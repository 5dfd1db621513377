use Rattle.std.proofs.Common.{◌≡◌, List, sym, ap, ◌∙◌, Ok}
use Rattle.lsl_lines.specs.Checks.{◌>>=◌}
use Rattle.lsl_lines.specs.Reading.{with_script}
use Rattle.lsl_lines.specs.declared.file.PrimLine.{PrimLine}
use Rattle.lsl_lines.specs.declared.file.ScriptLine.{ScriptLine}
use Rattle.lsl_lines.proofs.LastLemmas.{at_last-ok}
use Rattle.lsl_lines.proofs.file.ObjectLine.add_script.Goals as goal

pub returns : goal.returns
returns c =
    let old = c.args.self.now in
    let prim = c.in-Some.prim in
    let made : PrimLine = record { key = prim.key; name = prim.name; scripts = c.push.new.self } in
    let script : with_script c.args.script prim ≡ Ok made =
    ap (λ (l : List ScriptLine). Ok (record { key = prim.key; name = prim.name; scripts = l }))
    (sym c.in_ok-push.ensures.ok) in
    let last = at_last-ok (with_script c.args.script) old.prims c.pop.new.self prim made c.in-Some.ensures.items
    script in
    ap (λ r. r >>= λ prims. Ok (record { owner = old.owner; region = old.region; prims = prims })) last
    ∙ ap (λ (l : List PrimLine). Ok (record { owner = old.owner; region = old.region; prims = l }))
    (sym c.in_ok-push-2.ensures.ok)
