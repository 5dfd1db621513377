-- A sink that reports a mark in front of what it took: the mark stays, and what follows it grows as the whole does.
use Rattle.std.proofs.Common.{◌≡◌, ℕ, List, [], ◌∷◌, Option, Some, None, refl, ap, sym, subst, inl, inr}
use Rattle.lsl_ports.specs.Shelf.{Files}
use Rattle.lsl_ports.specs.Trips.{Trip}
use Rattle.lsl_region.specs.Worlds.{World}
use Rattle.lsl_top.specs.Answers.{Answer, Answers, Checks, Grade, Makes, PlaysRead}
use Rattle.lsl_top.specs.Held.{Holds}
use Rattle.lsl_top.specs.Pieces.{Piece}
use Rattle.lsl_top.specs.Plays.{Mode, Whole, Handing, Freezing, Inspecting, Thawing, Viewing, Play, file_in, play_of, play_of_once}
use Rattle.lsl_top.specs.Promise.{IsBegun, IsWhole, Keeps, KeepsFile, KeepsFrom, KeepsOf, KeepsPlay, KeepsTo, RefusesWorld, WritesNothing}
use Rattle.lsl_top.specs.Words.{Command, Once, Check, Replay, Lossy, Freeze, Thaw, Make, View, State}
use Rattle.lsl_top.specs.declared.status.Status.{Status}
use Rattle.lsl_top.specs.declared.status.Status.TheVariants.{Ok, Usage, BadWorld, BadScript, ReadFault, WriteFault, BadImage, NoMemory, BadNote}

abbrev pub mark : Option (List ℕ) → ℕ
mark (Some (m ∷ bytes)) = m
mark (Some []) = 0
mark None = 0

abbrev pub behind : Option (List ℕ) → Option (List ℕ)
behind (Some (m ∷ bytes)) = Some bytes
behind told = told

module _ (m n : ℕ) (a b : List ℕ) where
  abbrev old : Option (List ℕ)
  old = Some (m ∷ a)

  abbrev new : Option (List ℕ)
  new = Some (n ∷ b)

  pub same-behind : new ≡ old → Some b ≡ Some a
  same-behind e = ap behind e

  module _ (pieces : List Piece) (trips : List Trip) where
    whole-behind : IsWhole pieces trips old new → IsWhole pieces trips (Some a) (Some b)
    whole-behind w = record { written = ap behind w.written; sent = w.sent }

    begun-behind : IsBegun pieces trips old new → IsBegun pieces trips (Some a) (Some b)
    begun-behind (done, w) = (
      done,
      record {
        within = w.within;
        added = w.added;
        grew = ap behind w.grew;
        written = w.written;
        part = w.part;
        sent = w.sent;
      },
    )

  -- what is promised with the mark is promised after it
  keeps_to-behind : (IsAnswer : Grade → Answer → Type 0) (status : Status) (trips : List Trip)
      → KeepsTo IsAnswer status trips old new → KeepsTo IsAnswer status trips (Some a) (Some b)
  keeps_to-behind IsAnswer Ok trips (answer, is, e, w) = (answer, is, e, whole-behind answer.pieces trips w)
  keeps_to-behind IsAnswer BadWorld trips (answer, is, e, w) = (answer, is, e, whole-behind answer.pieces trips w)
  keeps_to-behind IsAnswer BadScript trips (answer, is, e, w) = (answer, is, e, whole-behind answer.pieces trips w)
  keeps_to-behind IsAnswer BadImage trips (answer, is, e, w) = (answer, is, e, whole-behind answer.pieces trips w)
  keeps_to-behind IsAnswer BadNote trips (answer, is, e, w) = (answer, is, e, whole-behind answer.pieces trips w)
  keeps_to-behind IsAnswer WriteFault trips (answer, is, w) = (answer, is, begun-behind answer.pieces trips w)
  keeps_to-behind IsAnswer NoMemory trips (inl (e, none)) = inl (same-behind e, none)
  keeps_to-behind IsAnswer NoMemory trips (inr (answer, is, w)) = inr (answer, is, begun-behind answer.pieces trips w)
  keeps_to-behind IsAnswer Usage trips k = tt
  keeps_to-behind IsAnswer ReadFault trips k = tt

  module _ (held : Option Files) (status : Status) (trips : List Trip) where
    play-behind : (play : Play) → KeepsPlay held trips play status old new
        → KeepsPlay held trips play status (Some a) (Some b)
    play-behind play (inl k) = inl (keeps_to-behind (λ grade answer. ⊥) status trips k)
    play-behind play (inr (read, are, keeps)) = inr (
      read,
      are,
      λ from fits. keeps_to-behind (λ grade. PlaysRead grade from trips play read) status trips (keeps from fits),
    )

    file-behind : (mode : Mode) (name : List ℕ) → KeepsFile held trips mode name status old new
        → KeepsFile held trips mode name status (Some a) (Some b)
    file-behind mode name (inl k) = inl (keeps_to-behind (λ grade. RefusesWorld held name) status trips k)
    file-behind mode name (inr (bytes, file, is, good, k)) =
        inr (bytes, file, is, good, play-behind (play_of mode (file_in mode file)) k)

    of-behind : (command : Command) → KeepsOf held trips command status old new
        → KeepsOf held trips command status (Some a) (Some b)
    of-behind (Once name) k = play-behind (play_of_once name) k
    of-behind (Check name) k =
        keeps_to-behind (λ grade answer. (text : List ℕ) × Holds held name text × Checks name text answer) status trips
        k
    of-behind (Replay name) k = file-behind Whole name k
    of-behind (Lossy name) k = file-behind Handing name k
    of-behind (Freeze name) k = file-behind Freezing name k
    of-behind (Thaw frozen name) k = file-behind (Thawing frozen) name k
    of-behind (View frozen name) k = file-behind (Viewing frozen) name k
    of-behind (State at name) k = file-behind (Inspecting at) name k
    of-behind (Make number) k =
        λ from. keeps_to-behind (λ grade. Makes grade from trips number) status trips (k from)

  pub keeps-behind : (held : Option Files) (words : Option Command) (status : Status) (trips : List Trip)
      → Keeps held trips words status old new → Keeps held trips words status (Some a) (Some b)
  keeps-behind held None status trips k = tt
  keeps-behind held (Some command) status trips k = of-behind held status trips command k

  -- whatever the status, the mark is unchanged
  keeps_to-mark : (IsAnswer : Grade → Answer → Type 0) (status : Status) (trips : List Trip)
      → (WritesNothing status → new ≡ old) → KeepsTo IsAnswer status trips old new → n ≡ m
  keeps_to-mark IsAnswer Ok trips nothing (answer, is, e, w) = ap mark w.written
  keeps_to-mark IsAnswer BadWorld trips nothing (answer, is, e, w) = ap mark w.written
  keeps_to-mark IsAnswer BadScript trips nothing (answer, is, e, w) = ap mark w.written
  keeps_to-mark IsAnswer BadImage trips nothing (answer, is, e, w) = ap mark w.written
  keeps_to-mark IsAnswer BadNote trips nothing (answer, is, e, w) = ap mark w.written
  keeps_to-mark IsAnswer WriteFault trips nothing (answer, is, (done, w)) = ap mark w.grew
  keeps_to-mark IsAnswer NoMemory trips nothing (inl (e, none)) = ap mark e
  keeps_to-mark IsAnswer NoMemory trips nothing (inr (answer, is, (done, w))) = ap mark w.grew
  keeps_to-mark IsAnswer Usage trips nothing k = ap mark (nothing tt)
  keeps_to-mark IsAnswer ReadFault trips nothing k = ap mark (nothing tt)

  pub keeps-mark : (files : Files) (from : World) (words : Option Command) (status : Status) (trips : List Trip)
      → (words ≡ None → status ≡ Usage) → (WritesNothing status → new ≡ old)
      → KeepsFrom (Some files) from trips words status old new → n ≡ m
  keeps-mark files from None status trips usage nothing k =
      ap mark (nothing (subst WritesNothing (sym (usage refl)) tt))
  keeps-mark files from (Some command) status trips usage nothing k =
      keeps_to-mark (λ grade. Answers grade (Some files) from trips command) status trips nothing k
