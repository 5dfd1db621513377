use Rattle.std.proofs.Common.{◌≡◌, ◌≤◌, ◌-◌, ◌++◌, length, take}
use Rattle.std.specs.List.{flat_map}
use Rattle.lsl_text.specs.Quoted.{escaped}
use Rattle.lsl_text.proofs.quote.push_body.Given as goal

abbrev pub invariant-runs : goal.invariant-runs
invariant-runs l =
    (l.done ≤ length l.text) × (l.out.items ≡ l.fn.out.items ++ flat_map escaped (take l.done l.text))

abbrev pub decreases-runs : goal.decreases-runs
decreases-runs l = length l.text - l.done
