-- A queue that is copied event by event.
use Rattle.std.proofs.Common.{◌≡◌, ℕ, ◌+◌, ◌<◌, ◌≤◌, Bool, true, cond, List, [], ◌∷◌, ◌++◌, length, take, Some, slice_get, ap, sym, ◌∙◌, arith}
use Rattle.std.proofs.lemmas.Bool.Decides.{nat_tests}
use Rattle.std.proofs.lemmas.List.{length-take-le}
use Rattle.lsl_post.specs.declared.events.Event.{Event}
use Rattle.lsl_post.specs.Queue.{has_room, with_event}
use Rattle.lsl_post.proofs.Places.{take-at}

pub copied-more : (q old new : List Event) (i : ℕ) (x y : Event) → i < length q → length q ≤ 64
    → old ≡ take i q → new ≡ with_event y old → y ≡ x → Some x ≡ slice_get q i →
    new ≡ take (i + 1) q
copied-more q old new i x y within few before put same at =
    let short = length-take-le i q in
    let room : has_room (take i q) ≡ true = grind (arith, nat_tests, short, within, few) in
    put ∙ (λ j. with_event (same j) (before j))
    ∙ ap (λ (b : Bool). cond b (take i q ++ x ∷ []) (take i q)) room ∙ sym (take-at q i x at)
