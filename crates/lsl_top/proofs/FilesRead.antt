-- From what was read of files to what their shelf holds.
use Rattle.std.proofs.Common.{◌≡◌, ℕ, zero, suc, List, [], ◌∷◌, take, Option, Some, None, inl, inr, refl, ap, ap₂, ◌∙◌, subst}
use Rattle.std.specs.Prelude.{slice_get}
use Rattle.std.specs.List.{AllZip}
use Rattle.lsl_ports.specs.Shelf.{Files, IsHeadOf, head_of}
use Rattle.lsl_ports.specs.Trips.{Trip}
use Rattle.lsl_tree.specs.Program.{Program}
use Rattle.lsl_build.specs.Accepted.{Accepted}
use Rattle.lsl_build.specs.Codes.{AreCodesOf}
use Rattle.lsl_build.specs.Faults.{FirstFault}
use Rattle.lsl_build.specs.declared.faults.BuildFault.{BuildFault}
use Rattle.lsl_code.specs.declared.woven_units.Woven.{Woven as Code}
use Rattle.lsl_region.specs.Worlds.{World}
use Rattle.lsl_top.specs.Answers.{Answer, Checks, Grade, PlaysAccepted, PlaysTexts}
use Rattle.lsl_top.specs.Froms.{IsFromTexts}
use Rattle.lsl_top.specs.Held.{AreHeld, Holds}
use Rattle.lsl_top.specs.Plays.{Play}
use Rattle.lsl_top.specs.Ports.{IsRead}
use Rattle.lsl_top.specs.Scripts.{AreAccepted, IsRefusedAt}
use Rattle.lsl_top.proofs.Heads.{accepted-whole, first-head}

-- what is found of the bytes that were read holds of the text
pub record IsReadOf (bytes text : List ℕ) : Type 0 where
  pub accepted : (program : Program) → Accepted bytes program → bytes ≡ text
  pub first : (fault : BuildFault) → FirstFault bytes fault → FirstFault text fault

read-head : (file bytes : List ℕ) → bytes ≡ head_of 65536 file → IsReadOf bytes file
read-head file bytes e = record {
  accepted = λ program a. e ∙ accepted-whole file program (subst (λ (z : List ℕ). Accepted z program) e a);
  first = λ fault f. first-head file fault (subst (λ (z : List ℕ). FirstFault z fault) e f);
}

-- the file of that name has a text of which this was read
abbrev pub HasText : Option Files → List ℕ → List ℕ → Type 0
HasText held name bytes = (text : List ℕ) × Holds held name text × IsReadOf bytes text

pub text-read : (held : Option Files) (name bytes : List ℕ) → IsRead held name bytes → HasText held name bytes
text-read None name bytes h = (bytes, tt, record { accepted = λ program a. refl; first = λ fault f. f })
text-read (Some files) name bytes h = go (files name) refl h
  where
    go : (file : Option (List ℕ)) → files name ≡ file → IsHeadOf 65536 file bytes → HasText (Some files) name bytes
    go None e h = absurd h
    go (Some file) e h = (file, e, read-head file bytes h)

-- the same for several files
abbrev pub HaveTexts : Option Files → List (List ℕ) → List (List ℕ) → Type 0
HaveTexts held names read = (texts : List (List ℕ)) × AreHeld held names texts × AllZip IsReadOf read texts

pub texts-read : (held : Option Files) (names read : List (List ℕ)) → AllZip (IsRead held) names read
    → HaveTexts held names read
texts-read held [] [] h = ([], tt, tt)
texts-read held (name ∷ names) (bytes ∷ read) h =
    let (text, is, of) = text-read held name bytes h.0 in
    let (texts, are, all) = texts-read held names read h.1 in
    (text ∷ texts, (is, are), (of, all))
texts-read held [] (bytes ∷ read) h = absurd h
texts-read held (name ∷ names) [] h = absurd h

-- texts that are accepted are those that were read
accepted-same : (read texts : List (List ℕ)) (programs : List Program) → AllZip IsReadOf read texts
    → AreAccepted read programs → read ≡ texts
accepted-same [] [] [] h a = refl
accepted-same (bytes ∷ read) (text ∷ texts) (p ∷ programs) h a =
    ap₂ (λ (x : List ℕ) (xs : List (List ℕ)). x ∷ xs) (h.0.accepted p a.0) (accepted-same read texts programs h.1 a.1)
accepted-same [] [] (p ∷ programs) h a = absurd a
accepted-same (bytes ∷ read) (text ∷ texts) [] h a = absurd a
accepted-same [] (text ∷ texts) programs h a = absurd h
accepted-same (bytes ∷ read) [] programs h a = absurd h

accepted-read : (read texts : List (List ℕ)) (programs : List Program) → AllZip IsReadOf read texts
    → AreAccepted read programs → AreAccepted texts programs
accepted-read read texts programs h a =
    subst (λ (z : List (List ℕ)). AreAccepted z programs) (accepted-same read texts programs h a) a

some-one : (a b : List ℕ) → Some a ≡ Some b → a ≡ b
some-one a b e = ap value e
  where
    value : Option (List ℕ) → List ℕ
    value (Some x) = x
    value None = a

-- the text at a place, and those before it
read-at : (read texts : List (List ℕ)) (place : ℕ) (bytes : List ℕ) → AllZip IsReadOf read texts
    → slice_get read place ≡ Some bytes → (text : List ℕ) × (slice_get texts place ≡ Some text) × IsReadOf bytes text
read-at [] [] place bytes h e = absurd (cc)
read-at (b ∷ read) (t ∷ texts) zero bytes h e =
    (t, refl, subst (λ (z : List ℕ). IsReadOf z t) (some-one b bytes e) h.0)
read-at (b ∷ read) (t ∷ texts) (suc place) bytes h e = read-at read texts place bytes h.1 e
read-at [] (t ∷ texts) place bytes h e = absurd h
read-at (b ∷ read) [] place bytes h e = absurd h

read-before : (read texts : List (List ℕ)) (place : ℕ) → AllZip IsReadOf read texts
    → AllZip IsReadOf (take place read) (take place texts)
read-before read texts zero h = tt
read-before [] [] (suc place) h = tt
read-before (b ∷ read) (t ∷ texts) (suc place) h = (h.0, read-before read texts place h.1)
read-before [] (t ∷ texts) (suc place) h = absurd h
read-before (b ∷ read) [] (suc place) h = absurd h

refused-read : (read texts : List (List ℕ)) (place : ℕ) (fault : BuildFault) → AllZip IsReadOf read texts
    → IsRefusedAt read place fault → IsRefusedAt texts place fault
refused-read read texts place fault h r =
    let (text, at, of) = read-at read texts place r.text h r.text_is in
    record {
      text = text;
      text_is = at;
      first = of.first fault r.first;
      before = (
        r.before.0,
        accepted-read (take place read) (take place texts) r.before.0 (read-before read texts place h) r.before.1,
      );
    }

pub checks-read : (name bytes text : List ℕ) (answer : Answer) → IsReadOf bytes text → Checks name bytes answer
    → Checks name text answer
checks-read name bytes text answer of (inl (program, accepted, e)) =
    inl (program, subst (λ (z : List ℕ). Accepted z program) (of.accepted program accepted) accepted, e)
checks-read name bytes text answer of (inr (fault, first, e)) = inr (fault, of.first fault first, e)

-- the code of texts that are accepted, and those texts
codes-read : (read texts : List (List ℕ)) (programs : List Program) (codes : List Code) → AllZip IsReadOf read texts
    → AreAccepted read programs → AreCodesOf read codes → AreCodesOf texts codes
codes-read read texts programs codes h a has =
    subst (λ (z : List (List ℕ)). AreCodesOf z codes) (accepted-same read texts programs h a) has

pub plays-read : (grade : Grade) (from : World) (trips : List Trip) (play : Play) (read texts notes : List (List ℕ))
    (text : List ℕ) (answer : Answer) → AllZip IsReadOf read texts
    → PlaysTexts grade from trips play read notes text answer → PlaysTexts grade from trips play texts notes text answer
plays-read grade from trips play read texts notes text answer h (inl (programs, codes, accepted, has, e)) =
    inl (
      programs,
      codes,
      accepted-read read texts programs h accepted,
      codes-read read texts programs codes h accepted has,
      subst (λ (z : List (List ℕ)). PlaysAccepted grade from trips play z codes programs notes text answer)
          (accepted-same read texts programs h accepted) e,
    )
plays-read grade from trips play read texts notes text answer h (inr (name, fault, first, e)) =
    inr (
      name,
      fault,
      record {
        place = first.place;
        named = first.named;
        refused = refused-read read texts first.place fault h first.refused;
      },
      e,
    )

-- a world that fits the texts fits what was read of them
pub from-read : (play : Play) (read texts notes : List (List ℕ)) (text : List ℕ) (from : World)
    → AllZip IsReadOf read texts → IsFromTexts play texts notes text from → IsFromTexts play read notes text from
from-read play read texts notes text from h fits programs codes accepted has =
    fits programs codes (accepted-read read texts programs h accepted)
    (codes-read read texts programs codes h accepted has)
