-- A command of two words thaws nothing, so whatever world was frozen before fits it.
use Rattle.std.proofs.Common.{◌≡◌, ℕ, List, [], ◌∷◌, length, Option, Some, arith}
use Rattle.std.specs.Prelude.{Bool, true, false, codes, None, option_map, if◌then◌else◌}
use Rattle.std.specs.Str.{bytes_eq}
use Rattle.lsl_ports.specs.Shelf.{Files}
use Rattle.lsl_region.specs.Worlds.{World}
use Rattle.lsl_top.specs.Froms.{IsFromWords}
use Rattle.lsl_top.specs.Words.{Once, Check, Replay, Freeze, Make, State, command_in, command_named, names_file, number_in}
use Rattle.lsl_top.specs.declared.positions.Position.{Position}

module _ (files : Files) (from : World) where
  made : (number : Option ℕ) → IsFromWords (Some files) (option_map Make number) from
  made (Some number) = tt
  made None = tt

  named : (file : List ℕ) (once check replay freeze make : Bool)
      → IsFromWords (Some files) (if once then Some (Once file) else if check then Some (Check file)
      else if replay then Some (Replay file) else if freeze then Some (Freeze file)
      else if make then option_map Make (number_in file) else None) from
  named file true check replay freeze make = tt
  named file false true replay freeze make = tt
  named file false false true freeze make =
      λ bytes world is good found had programs units all has cards read. tt
  named file false false false true make =
      λ bytes world is good found had programs units all has cards read. tt
  named file false false false false true = made (number_in file)
  named file false false false false false = tt

  two-fit : (word file : List ℕ) (names : Bool)
      → IsFromWords (Some files) (if names then command_named word file else None) from
  two-fit word file true =
      named file (bytes_eq word (codes "once")) (bytes_eq word (codes "check")) (bytes_eq word (codes "replay"))
      (bytes_eq word (codes "freeze")) (bytes_eq word (codes "make"))
  two-fit word file false = tt

  pub words-fit : (words : List (List ℕ)) → length words ≡ 2 → IsFromWords (Some files) (command_in words) from
  words-fit (word ∷ file ∷ []) e = two-fit word file (names_file file)
  words-fit [] e = absurd (omega (arith, e))
  words-fit (word ∷ []) e = absurd (omega (arith, e))
  words-fit (word ∷ file ∷ other ∷ words) e = absurd (omega (arith, e))

  -- nor does a state
  pub state-fits : (at : Option Position) (file : List ℕ) → IsFromWords (Some files) (Some (State at file)) from
  state-fits at file = λ bytes world is good found had programs units all has cards read. tt
