use Rattle.std.proofs.Common.{◌≡◌, length, map, take}
use Rattle.lsl_top.specs.Notes.{AreCards}
use Rattle.lsl_top.proofs.noting.read_cards.Given as goal

abbrev pub invariant-loop-place : goal.invariant-loop-place
invariant-loop-place l =
    record {
      read : AreCards (take l.place (map (λ t. t.items) l.texts)) l.cards.items;
      len : length l.cards.items ≡ l.place;
    }
