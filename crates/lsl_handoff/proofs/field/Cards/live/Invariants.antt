use Rattle.std.proofs.Common.{◌≡◌, ℕ, List, ◌≤◌}
use Rattle.lsl_handoff.specs.declared.card.Phase.TheVariants.{Live}
use Rattle.lsl_handoff.specs.Fields.{card_of}
use Rattle.lsl_handoff.proofs.field.Cards.live.Given as goal

-- none of this many is live
abbrev pub invariant-loop-i : goal.invariant-loop-i
invariant-loop-i l =
    (region : ℕ) (held : List ℕ) → region ≤ l.i → (card_of l.self region).phase ≡ Live held → ⊥
