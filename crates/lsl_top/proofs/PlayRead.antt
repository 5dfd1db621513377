-- From what was read of a play's files to what its shelf holds, and the result of the play.
use Rattle.std.proofs.Common.{◌≡◌, ℕ, List, Option, inl, inr, subst}
use Rattle.lsl_ports.specs.Counts.{NoneFell}
use Rattle.lsl_ports.specs.Shelf.{Files}
use Rattle.lsl_ports.specs.Trips.{Trip}
use Rattle.lsl_region.specs.Worlds.{World}
use Rattle.lsl_top.specs.Answers.{Answer, Due, Grade, Plays, PlaysRead}
use Rattle.lsl_top.specs.Fair.{IsFairIn}
use Rattle.lsl_top.specs.Froms.{IsFromRead}
use Rattle.lsl_top.specs.Held.{AreRead}
use Rattle.lsl_top.specs.Named.{IsPlayName}
use Rattle.lsl_top.specs.Plays.{Play, Read}
use Rattle.lsl_top.specs.Ports.{Concludes, Log, Serves, WasRead, Wire, gives_in}
use Rattle.lsl_top.specs.Promise.{KeepsPlay}
use Rattle.lsl_top.specs.declared.status.Status.{Status}
use Rattle.lsl_top.proofs.FilesRead.{from-read, plays-read, texts-read}
use Rattle.lsl_top.proofs.Finishing.{keeps-as, serve-concluded}
use Rattle.lsl_top.proofs.FrozenRead.{from-frozen, frozen-read, plays-frozen}
use Rattle.lsl_top.proofs.NotesRead.{from-noted, notes-read, plays-noted}

-- the texts of a play, of which these were read: the result of these is the result of those
record HasRead (held : Option Files) (play : Play) (bytes : Read) : Type 0 where
  read : Read
  are : AreRead held play read
  comes : (grade : Grade) (from : World) (trips : List Trip) (answer : Answer)
      → PlaysRead grade from trips play bytes answer → PlaysRead grade from trips play read answer
  fits : (from : World) → IsFromRead play read from → IsFromRead play bytes from

play-read : (held : Option Files) (play : Play) (bytes : Read) → WasRead held play bytes → HasRead held play bytes
play-read held play bytes was =
    let (texts, are, of) = texts-read held play.names bytes.texts was.scripts in
    let (notes, noted, like) = notes-read held play.cards bytes.notes was.cards in
    let has = frozen-read held play.mode bytes.frozen was.frozen in
    record {
      read = record { texts = texts; notes = notes; frozen = has.text };
      are = record { scripts = are; cards = noted; frozen = has.holds };
      comes = λ grade from trips answer h.
          plays-frozen held bytes.frozen grade from trips play texts notes answer has
          (plays-noted grade from trips play texts bytes.notes notes bytes.frozen answer like
          (plays-read grade from trips play bytes.texts texts bytes.notes bytes.frozen answer of h));
      fits = λ from f.
          from-read play bytes.texts texts bytes.notes bytes.frozen from of
          (from-noted play texts bytes.notes notes bytes.frozen from like
          (from-frozen held bytes.frozen play texts notes from has f));
    }

-- all files of a play were read, and then it was run or refused
pub serve-play : (gives : List ℕ → Option (List ℕ) → Type 0) (held later : Option Files)
    (faults counted : List ℕ → ℕ) (found play : Play) (bytes : Read) (a b : Log) (p q : Wire) (status : Status)
    → later ≡ held → NoneFell faults counted → found ≡ play → WasRead held found bytes
    → Concludes (gives_in found.mode gives) (IsFairIn found.mode) (IsFromRead found bytes)
    (λ grade from trips. PlaysRead grade from trips found bytes) a b p q status
    → Serves (gives_in play.mode gives) (IsFairIn play.mode) (λ trips. KeepsPlay held trips play)
    (λ grade from trips. Plays grade held from trips play) (IsPlayName play.mode play.names play.cards)
    (record { held = held; read_faults = faults; log = a; wire = p })
    (record { held = later; read_faults = counted; log = b; wire = q }) status
serve-play gives held later faults counted found play bytes a b p q status same fell is was h =
    let has = play-read held play bytes (subst (λ (z : Play). WasRead held z bytes) is was) in
    serve-concluded (gives_in play.mode gives) (IsFairIn play.mode) (λ trips. KeepsPlay held trips play)
    (λ grade from trips. Plays grade held from trips play) (IsPlayName play.mode play.names play.cards) held later
    faults counted same fell (IsFromRead play bytes) (λ grade from trips. PlaysRead grade from trips play bytes) a b p q
    status
    (λ trips keeps. inr (
      has.read,
      has.are,
      λ from fits. keeps-as (λ grade. PlaysRead grade from trips play bytes)
          (λ grade. PlaysRead grade from trips play has.read) status trips a.sunk b.sunk
          (λ grade answer h. has.comes grade from trips answer h) (keeps from (has.fits from fits)),
    ))
    (λ from trips answer h. (has.read, has.are, has.comes Due from trips answer h))
    (subst (λ (z : Play). Concludes (gives_in z.mode gives) (IsFairIn z.mode) (IsFromRead z bytes)
    (λ grade from trips. PlaysRead grade from trips z bytes) a b p q status) is h)
