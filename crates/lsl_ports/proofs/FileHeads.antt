-- A file that is read piece by piece.
use Rattle.std.proofs.Common.{◌≡◌, ℕ, ◌+◌, ◌-◌, ◌<◌, ◌≤◌, List, [], ◌++◌, length, take, drop, Option, Some, None, ap, sym, ◌∙◌, subst, arith, length-append}
use Rattle.std.proofs.lemmas.List.{length-take, length-take-le, length-drop, take-append-le, take-take, take_all}
use Rattle.std.proofs.Math.ListN.{replicate, length-replicate}
use Rattle.std.proofs.Math.Seq.{take-append-add, take-add}
use Rattle.lsl_ports.specs.Shelf.{Files, Reads, CopiesFile}
use Rattle.lsl_ports.specs.Piece.{FollowsFile, FollowsIn, Gains}

-- what a vector holds after a piece of it was read into and the rest was cut off
pub piece_read : (old block piece post rest : List ℕ) (room count : ℕ) → take (length old) block ≡ old
    → count ≤ length piece → length old + length piece ≤ room →
    take (length old + count) (take room ((take (length old) block ++ (piece ++ post)) ++ rest))
    ≡ old ++ take count piece
piece_read old block piece post rest room count front few fits =
    rw front
    (take-take _ room _ (omega arith)
    ∙ take-append-le _ (old ++ (piece ++ post)) rest
    (omega (arith, length-append old (piece ++ post), length-append piece post))
    ∙ take-append-add old (piece ++ post) count
    ∙ ap (λ z. old ++ z) (take-append-le count piece post few))

follows-file : (file : Option (List ℕ)) (place : ℕ) (piece : List ℕ) (count : ℕ) → count ≤ length piece
    → 0 < length piece → CopiesFile file place piece count → FollowsFile file place (take count piece)
follows-file None place piece count few some c = c
follows-file (Some file) place piece count few some c =
    record {
      copied = c.copied ∙ ap (λ z. take z (drop place file)) (sym (length-take-le count piece few));
      ended = λ e. c.ended (sym (length-take-le count piece few) ∙ e) some;
    }

pub follows-read : (held : Option Files) (name : List ℕ) (place : ℕ) (piece : List ℕ) (count : ℕ)
    → count ≤ length piece → 0 < length piece → Reads held name place piece count
    → FollowsIn held name place (take count piece)
follows-read None name place piece count few some c = tt
follows-read (Some files) name place piece count few some c = follows-file (files name) place piece count few some c

abbrev pub BeginsFile : Option (List ℕ) → List ℕ → Type 0
BeginsFile None bytes = bytes ≡ []
BeginsFile (Some file) bytes = bytes ≡ take (length bytes) file

-- these are the first bytes of the file of that name, or nothing was read of it yet
abbrev pub Begins : Option Files → List ℕ → List ℕ → Type 0
Begins None name bytes = Unit {0}
Begins (Some files) name bytes = BeginsFile (files name) bytes

begins-further : (file : Option (List ℕ)) (bytes next : List ℕ) → BeginsFile file bytes
    → FollowsFile file (length bytes) next → BeginsFile file (bytes ++ next)
begins-further None bytes next b f = absurd f
begins-further (Some file) bytes next b f =
    ap (λ z. bytes ++ z) f.copied
    ∙ ap (λ z. z ++ take (length next) (drop (length bytes) file)) b
    ∙ sym (take-add (length bytes) (length next) file)
    ∙ ap (λ z. take z file) (sym (length-append bytes next))

begins-more : (held : Option Files) (name bytes next : List ℕ) → Begins held name bytes
    → FollowsIn held name (length bytes) next → Begins held name (bytes ++ next)
begins-more None name bytes next b f = tt
begins-more (Some files) name bytes next b f = begins-further (files name) bytes next b f

-- one read more, of a shelf that holds what it held
pub begins-gains : (held then : Option Files) (name old new : List ℕ) (count : ℕ) → then ≡ held
    → Begins held name old → Gains then name old new count → Begins held name new
begins-gains held then name old new count same b gain =
    let told = subst (λ z. FollowsIn z name (length old) gain.next) same gain.told in
    subst (λ z. Begins held name z) (sym gain.grew) (begins-more held name old gain.next b told)

-- a vector that was grown by `room` zeros, read into from its old end on, and truncated after what came
pub gains_read : (held : Option Files) (name old block piece post rest new : List ℕ) (place filler room len count : ℕ) →
    place ≡ length old → 0 < room → filler ≡ room → len ≡ place + room →
    block ≡ take (place + room) old ++ replicate filler 0 →
    length piece ≡ length (take (length block - place) (drop place block)) →
    count ≤ length piece →
    Reads held name place piece count →
    new ≡ take (place + count) (take len ((take place block ++ (piece ++ post)) ++ rest)) →
    Gains held name old new count
gains_read held name old block piece post rest new place filler room len count at some fill wide is many few reads cut =
    let whole : take (place + room) old ≡ old = take_all (place + room) old (omega arith) in
    let size : length block ≡ place + room =
    ap length is ∙ simp (length-append, length-replicate, whole) (omega arith) in
    let room_read : length piece ≡ room =
    omega (arith, many, length-take (length block - place) (drop place block), length-drop place block) in
    let front : take (length old) block ≡ old =
    ap (λ z. take (length old) z) (is ∙ ap (λ z. z ++ replicate filler 0) whole)
    ∙ take-append-le (length old) old (replicate filler 0) (omega arith)
    ∙ take_all (length old) old (omega arith) in
    let cut_at : new ≡ take (length old + count) (take len ((take (length old) block ++ (piece ++ post)) ++ rest)) =
    subst (λ z. new ≡ take (z + count) (take len ((take z block ++ (piece ++ post)) ++ rest))) at cut in
    record {
      next = take count piece;
      grew = cut_at ∙ piece_read old block piece post rest len count front few (omega arith);
      many = length-take-le count piece few;
      told = subst (λ z. FollowsIn held name z (take count piece)) at
          (follows-read held name place piece count few (omega arith) reads);
    }
