-- A name that is written byte by byte.
use Rattle.std.proofs.Common.{◌≡◌, ℕ, ◌+◌, ◌<◌, List, [], ◌∷◌, ◌++◌, length, take, get_or, ap, sym, ◌∙◌, append-nil}
use Rattle.std.specs.List.{flat_map}
use Rattle.std.proofs.lemmas.List.{take_more}
use Rattle.std.proofs.lemmas.Grind.{flat_map-append}
use Rattle.lsl_text.specs.Quoted.{escaped}

-- one byte more of a text
pub escaped_more : (text : List ℕ) (i : ℕ) → i < length text
    → flat_map escaped (take i text) ++ escaped (get_or text i 0) ≡ flat_map escaped (take (i + 1) text)
escaped_more text i lt =
    sym (ap (flat_map escaped) (take_more text i 0 lt)
    ∙ flat_map-append escaped (take i text) (get_or text i 0 ∷ [])
    ∙ ap (λ z. flat_map escaped (take i text) ++ z) (append-nil (escaped (get_or text i 0))))
