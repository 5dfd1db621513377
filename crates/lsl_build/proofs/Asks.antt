-- The code asks at no more places than its program has nodes.
use Rattle.std.proofs.Common.{◌≡◌, ◌≤◌, List, [], ◌∷◌, map, refl, ap, ◌∙◌, arith}
use Rattle.lsl_tree.specs.Program.{Program}
use Rattle.lsl_code.specs.declared.functions.FunctionCode.{FunctionCode}
use Rattle.lsl_code.specs.declared.woven_functions.WovenCode.{WovenCode}
use Rattle.lsl_code.specs.declared.woven_units.Woven.{Woven}
use Rattle.lsl_code.specs.Bodies.{plain_body}
use Rattle.lsl_code.specs.Laws.{hosts_of}
use Rattle.lsl_code.specs.Weaves.{bodies_of}
use Rattle.lsl_code.specs.WovenBodies.{woven_body}
use Rattle.lsl_gen.specs.Counts.{nodes_of}
use Rattle.lsl_gen.specs.Programs.{generated_functions}
use Rattle.lsl_gen.proofs.Asks.{generated_hosts}
use Rattle.lsl_weave.specs.Layout.{all_woven}
use Rattle.lsl_weave.specs.Weaving.{woven_function}
use Rattle.lsl_weave.proofs.Hosts.{asks_alike}

bodies_made : (functions : List FunctionCode)
    → map woven_body (map woven_function functions) ≡ all_woven (map plain_body functions)
bodies_made [] = refl
bodies_made (f ∷ functions) = ap (λ l. woven_body (woven_function f) ∷ l) (bodies_made functions)

pub few_asks : (p : Program) (code : Woven) → code.functions ≡ map woven_function (generated_functions p)
    → hosts_of (bodies_of code) ≤ nodes_of p
few_asks p code e =
    let plain = map plain_body (generated_functions p) in
    let same : hosts_of (bodies_of code) ≡ hosts_of plain =
    ap (λ (fs : List WovenCode). hosts_of (map woven_body fs)) e
    ∙ ap hosts_of (bodies_made (generated_functions p))
    ∙ asks_alike plain in
    let few = generated_hosts p in omega arith
