-- Over files that are told, a command has one answer.
use Rattle.std.proofs.Common.{◌≡◌, ℕ, zero, suc, ◌<◌, List, [], ◌∷◌, take, Some, Result, Ok as OkResult, Err, inl, inr, refl, sym, ap, ap₂, ◌∙◌, subst, arith}
use Rattle.std.specs.Prelude.{slice_get}
use Rattle.std.proofs.lemmas.Bool.{cases_lt}
use Rattle.lsl_ports.specs.Shelf.{Files}
use Rattle.lsl_ports.specs.Trips.{Trip}
use Rattle.lsl_code.specs.declared.woven_units.Woven.{Woven as Code}
use Rattle.lsl_tree.specs.Program.{Program}
use Rattle.lsl_build.specs.Accepted.{Accepted}
use Rattle.lsl_build.specs.Codes.{AreCodesOf}
use Rattle.lsl_build.specs.Faults.{FirstFault}
use Rattle.lsl_build.specs.declared.faults.BuildFault.{BuildFault}
use Rattle.lsl_build.proofs.Accepted.{one_derived, one_program}
use Rattle.lsl_build.proofs.FirstFault.{one_fault}
use Rattle.lsl_lines.specs.World.{FileFirst, IsWorld}
use Rattle.lsl_lines.specs.declared.faults.FileFault.{FileFault}
use Rattle.lsl_lines.specs.declared.file.WorldFile.{WorldFile}
use Rattle.lsl_image.specs.Images.{WorldFirst}
use Rattle.lsl_image.specs.World.{world}
use Rattle.lsl_image.specs.declared.faults.ImageFault.{ImageFault}
use Rattle.lsl_image.specs.declared.parts.WorldParts.{WorldParts}
use Rattle.lsl_image.proofs.ImageLemmas.{first-one, image-no_fault, image-one}
use Rattle.lsl_notes.specs.declared.cards.Notecard.{Notecard}
use Rattle.lsl_region.specs.Worlds.{World}
use Rattle.lsl_world.specs.Frozen.{shapes_of_file, IsImageIn}
use Rattle.lsl_world.specs.Programs.{rules_of}
use Rattle.lsl_world.specs.Starts.{start}
use Rattle.lsl_top.specs.Answers.{Answer, run_answer, Checks, Comes, Grade, Plays, PlaysTexts, Replays, ReplaysFile, image_refused, script_refused, summed, world_refused, Shows, done, PlaysAccepted}
use Rattle.lsl_top.specs.Held.{AreHeld, Holds, HoldsFrozen}
use Rattle.lsl_top.specs.Laws.{AnswersAreOne}
use Rattle.lsl_top.specs.Made.{made_files, made_name}
use Rattle.lsl_top.specs.Plays.{Mode, Whole, Handing, Freezing, Inspecting, Thawing, Play, file_in, inspected, play_of, play_of_once, played, Viewing}
use Rattle.lsl_top.specs.Notes.{AreCards, notecards_of}
use Rattle.lsl_top.specs.Scripts.{AreAccepted, FirstRefused, IsRefusedAt}
use Rattle.lsl_top.specs.Thaws.{IsThawFault, IsThawOf}
use Rattle.lsl_top.specs.Words.{Once, Check, Replay, Lossy, Freeze, Thaw, Make, View, State}
use Rattle.lsl_view.specs.Globals.{HasGlobals, HaveGlobals, global_names}
use Rattle.lsl_view.specs.Names.{script_names}
use Rattle.lsl_view.specs.Parts.{view_of_parts}
use Rattle.lsl_top.proofs.FrozenOne.{frozen-one, has-line}
use Rattle.lsl_top.proofs.OneCode.{codes-one}
use Rattle.lsl_top.proofs.OneCard.{bad-one, cards-bad, cards-one}
use Rattle.lsl_top.proofs.OneText.{get-take, no_fault, some-one}

pub text-one : (files : Files) (name a b : List ℕ) → Holds (Some files) name a → Holds (Some files) name b → a ≡ b
text-one files name a b h k = some-one a b (sym h ∙ k)

pub texts-one : (files : Files) (names ts us : List (List ℕ)) → AreHeld (Some files) names ts
    → AreHeld (Some files) names us → ts ≡ us
texts-one files [] [] [] h k = refl
texts-one files (name ∷ names) (a ∷ ts) (b ∷ us) h k =
    ap₂ (λ x xs. x ∷ xs) (text-one files name a b h.0 k.0) (texts-one files names ts us h.1 k.1)
texts-one files [] (a ∷ ts) us h k = absurd h
texts-one files [] [] (b ∷ us) h k = absurd k
texts-one files (name ∷ names) [] us h k = absurd h
texts-one files (name ∷ names) (a ∷ ts) [] h k = absurd k

pub programs-one : (texts : List (List ℕ)) (ps qs : List Program) → AreAccepted texts ps → AreAccepted texts qs → ps
    ≡ qs
programs-one [] [] [] h k = refl
programs-one (t ∷ texts) (p ∷ ps) (q ∷ qs) h k =
    ap₂ (λ x xs. x ∷ xs) (one_program t p q h.0 k.0) (programs-one texts ps qs h.1 k.1)
programs-one [] (p ∷ ps) qs h k = absurd h
programs-one [] [] (q ∷ qs) h k = absurd k
programs-one (t ∷ texts) [] qs h k = absurd h
programs-one (t ∷ texts) (p ∷ ps) [] h k = absurd k

-- a text has one list of globals
globals-of-one : (text : List ℕ) (a b : List (List ℕ)) → HasGlobals text a → HasGlobals text b → a ≡ b
globals-of-one text a b (x, is, e) (y, are, f) =
    e ∙ ap global_names
    (one_derived text is.tokens are.tokens is.lexed are.lexed x y is.derived are.derived) ∙ sym f

pub globals-one : (texts : List (List ℕ)) (xs ys : List (List (List ℕ))) → HaveGlobals texts xs → HaveGlobals texts ys
    → xs ≡ ys
globals-one [] [] [] h k = refl
globals-one (t ∷ texts) (x ∷ xs) (y ∷ ys) h k =
    ap₂ (λ z zs. z ∷ zs) (globals-of-one t x y h.0 k.0) (globals-one texts xs ys h.1 k.1)
globals-one [] (x ∷ xs) ys h k = absurd h
globals-one [] [] (y ∷ ys) h k = absurd k
globals-one (t ∷ texts) [] ys h k = absurd h
globals-one (t ∷ texts) (x ∷ xs) [] h k = absurd k

-- each of the texts is accepted
accepted-at : (texts : List (List ℕ)) (programs : List Program) (place : ℕ) (text : List ℕ) → AreAccepted texts programs
    → slice_get texts place ≡ Some text → (program : Program) × Accepted text program
accepted-at [] programs place text h e = absurd (cc)
accepted-at (t ∷ texts) [] place text h e = absurd h
accepted-at (t ∷ texts) (p ∷ programs) zero text h e =
    (p, subst (λ (z : List ℕ). Accepted z p) (some-one t text e) h.0)
accepted-at (t ∷ texts) (p ∷ programs) (suc place) text h e = accepted-at texts programs place text h.1 e

-- texts that are all accepted have none that isn't
accepted-refused : (texts : List (List ℕ)) (programs : List Program) (place : ℕ) (fault : BuildFault)
    → AreAccepted texts programs → IsRefusedAt texts place fault → ⊥
accepted-refused texts programs place fault h r =
    let (p, a) = accepted-at texts programs place r.text h r.text_is in no_fault r.text p fault a r.first

not_before : (texts : List (List ℕ)) (a b : ℕ) (f g : BuildFault) → IsRefusedAt texts a f → IsRefusedAt texts b g
    → a < b → ⊥
not_before texts a b f g r s lt =
    let (p, accepted) = accepted-at (take b texts) s.before.0 a r.text s.before.1 (get-take texts a b lt ∙ r.text_is) in
    no_fault r.text p f accepted r.first

places-one : (texts : List (List ℕ)) (a b : ℕ) (f g : BuildFault) → IsRefusedAt texts a f → IsRefusedAt texts b g
    → a ≡ b
places-one texts a b f g r s = elim (cases_lt a b) [
  | inl lt ↦ absurd (not_before texts a b f g r s lt)
  | inr le ↦ elim (cases_lt b a) [
    | inl lt ↦ absurd (not_before texts b a g f s r lt)
    | inr ge ↦ omega arith
  ]
]

fault-one : (texts : List (List ℕ)) (place : ℕ) (f g : BuildFault) → IsRefusedAt texts place f
    → IsRefusedAt texts place g → f ≡ g
fault-one texts place f g r s =
    one_fault s.text f g
    (subst (λ (z : List ℕ). FirstFault z f) (some-one r.text s.text (sym r.text_is ∙ s.text_is)) r.first) s.first

refused-one : (names texts : List (List ℕ)) (n m : List ℕ) (f g : BuildFault) → FirstRefused names texts n f
    → FirstRefused names texts m g → script_refused n f ≡ script_refused m g
refused-one names texts n m f g r s =
    let at = places-one texts r.place s.place f g r.refused s.refused in
    let same = fault-one texts s.place f g
    (subst (λ place. IsRefusedAt texts place f) at r.refused) s.refused in
    let named = some-one n m (sym r.named ∙ ap (λ place. slice_get names place) at ∙ s.named) in
    ap₂ (λ name fault. script_refused name fault) named same

-- a text that gives a world has no fault, and otherwise one fault
pub thaw-no_fault : (codes : List Code) (file : WorldFile) (text : List ℕ) (parts : WorldParts) (fault : ImageFault)
    → IsThawOf codes file text parts → IsThawFault codes file text fault → ⊥
thaw-no_fault codes file text parts fault (image, is, stands) (inl (lacks, e)) = lacks (has-line text image is)
thaw-no_fault codes file text parts fault (image, is, stands) (inr (other, k, first)) =
    image-no_fault (world (shapes_of_file file) codes) image parts fault stands
    (subst (λ (z : List ℕ). WorldFirst (shapes_of_file file) codes z fault) (frozen-one text other image k is) first)

thaw-fault-one : (codes : List Code) (file : WorldFile) (text : List ℕ) (f g : ImageFault)
    → IsThawFault codes file text f → IsThawFault codes file text g → f ≡ g
thaw-fault-one codes file text f g (inl (lacks, e)) (inl (other, k)) = e ∙ sym k
thaw-fault-one codes file text f g (inl (lacks, e)) (inr (image, is, first)) = absurd (lacks (has-line text image is))
thaw-fault-one codes file text f g (inr (image, is, first)) (inl (lacks, e)) = absurd (lacks (has-line text image is))
thaw-fault-one codes file text f g (inr (image, is, first)) (inr (other, k, second)) =
    first-one (world (shapes_of_file file) codes) other f g
    (subst (λ (z : List ℕ). WorldFirst (shapes_of_file file) codes z f) (frozen-one text image other is k) first) second

-- a text has one world
pub thawed-one : (codes : List Code) (file : WorldFile) (text : List ℕ) (a b : WorldParts)
    → IsThawOf codes file text a → IsThawOf codes file text b → a ≡ b
thawed-one codes file text a b (image, is, stands) (other, k, like) =
    image-one (world (shapes_of_file file) codes) other a b
    (subst (λ (z : List ℕ). IsImageIn codes file a z) (frozen-one text image other is k) stands) like

shown-one : (codes : List Code) (file : WorldFile) (name text : List ℕ) (a b : Answer) → Shows codes file name text a
    → Shows codes file name text b → a ≡ b
shown-one codes file name text a b (inl (p, t, e)) (inl (q, u, f)) =
    e ∙ ap (λ (parts : WorldParts). done (view_of_parts codes (script_names file) parts))
    (thawed-one codes file text p q t u) ∙ sym f
shown-one codes file name text a b (inl (p, t, e)) (inr (fault, u, f)) =
    absurd (thaw-no_fault codes file text p fault t u)
shown-one codes file name text a b (inr (fault, t, e)) (inl (p, u, f)) =
    absurd (thaw-no_fault codes file text p fault u t)
shown-one codes file name text a b (inr (one, t, e)) (inr (other, u, f)) =
    e ∙ ap (λ (fault : ImageFault). image_refused name fault) (thaw-fault-one codes file text one other t u) ∙ sym f

-- of the same scripts, notecards and texts comes one answer, due or written
comes-one : (g h : Grade) (from : World) (trips : List Trip) (mode : Mode) (texts : List (List ℕ)) (codes : List Code)
    (programs : List Program) (file : WorldFile) (cards : List Notecard) (text : List ℕ) (a b : Answer)
    → Comes g from trips mode texts codes programs file cards text a
    → Comes h from trips mode texts codes programs file cards text b → a ≡ b
comes-one g h from trips Whole texts codes programs file cards text a b (l, e) (m, f) = e ∙ sym f
comes-one g h from trips Handing texts codes programs file cards text a b e f = e ∙ sym f
comes-one g h from trips Freezing texts codes programs file cards text a b (l, e) (m, f) = e ∙ sym f
comes-one g h from trips (Inspecting at) texts codes programs file cards text a b (ones, is, come) (others, are, comes) =
    come.1 ∙ ap (λ (globals : List (List (List ℕ))). run_answer (inspected file globals) codes programs file trips
    (start (rules_of programs) file cards)) (globals-one texts ones others is are) ∙ sym comes.1
comes-one g h from trips (Thawing name) texts codes programs file cards text a b (inl (p, t, e)) (inl (q, u, f)) = e ∙ sym f
comes-one g h from trips (Thawing name) texts codes programs file cards text a b (inl (p, t, e)) (inr (fault, u, f)) =
    absurd (thaw-no_fault codes file text p fault t u)
comes-one g h from trips (Thawing name) texts codes programs file cards text a b (inr (fault, t, e)) (inl (p, u, f)) =
    absurd (thaw-no_fault codes file text p fault u t)
comes-one g h from trips (Thawing name) texts codes programs file cards text a b (inr (one, t, e)) (inr (other, u, f)) =
    e ∙ ap (λ (fault : ImageFault). image_refused name fault) (thaw-fault-one codes file text one other t u) ∙ sym f
comes-one g h from trips (Viewing name) texts codes programs file cards text a b p q =
    shown-one codes file name text a b p q

accepted-one : (g h : Grade) (from : World) (trips : List Trip) (play : Play) (texts : List (List ℕ)) (codes : List Code)
    (programs : List Program) (notes : List (List ℕ)) (text : List ℕ) (a b : Answer)
    → PlaysAccepted g from trips play texts codes programs notes text a
    → PlaysAccepted h from trips play texts codes programs notes text b → a ≡ b
accepted-one g h from trips play texts codes programs notes text a b (inl (cs, all, e)) (inl (ds, other, f)) =
    let file = play.world in
    comes-one g h from trips play.mode texts codes programs file (notecards_of file.notes ds) text a b
    (subst (λ (cards : List (List (List ℕ))). Comes g from trips play.mode texts codes programs file
    (notecards_of file.notes cards) text a) (cards-one notes cs ds all other) e) f
accepted-one g h from trips play texts codes programs notes text a b (inl (cs, all, e)) (inr (name, fault, r, f)) =
    absurd (cards-bad notes cs r.place fault all r.bad)
accepted-one g h from trips play texts codes programs notes text a b (inr (name, fault, r, e)) (inl (ds, all, f)) =
    absurd (cards-bad notes ds r.place fault all r.bad)
accepted-one g h from trips play texts codes programs notes text a b (inr (n, f, r, e)) (inr (m, k, s, d)) =
    e ∙ bad-one play.cards notes n m f k r s ∙ sym d

plays-texts-one : (g h : Grade) (from : World) (trips : List Trip) (play : Play) (texts notes : List (List ℕ))
    (text : List ℕ) (a b : Answer) → PlaysTexts g from trips play texts notes text a
    → PlaysTexts h from trips play texts notes text b → a ≡ b
plays-texts-one g h from trips play texts notes text a b (inl (ps, cs, all, has, e)) (inl (qs, ds, other, have, f)) =
    accepted-one g h from trips play texts ds qs notes text a b
    (subst (λ (codes : List Code). PlaysAccepted g from trips play texts codes qs notes text a)
    (codes-one texts cs ds has have)
    (subst (λ (programs : List Program). PlaysAccepted g from trips play texts cs programs notes text a)
    (programs-one texts ps qs all other) e)) f
plays-texts-one g h from trips play texts notes text a b (inl (ps, cs, all, has, e)) (inr (name, fault, r, f)) =
    absurd (accepted-refused texts ps r.place fault all r.refused)
plays-texts-one g h from trips play texts notes text a b (inr (name, fault, r, e)) (inl (qs, ds, all, have, f)) =
    absurd (accepted-refused texts qs r.place fault all r.refused)
plays-texts-one g h from trips play texts notes text a b (inr (n, f, r, e)) (inr (m, k, s, d)) =
    e ∙ refused-one play.names texts n m f k r s ∙ sym d

-- the frozen text of a play is one, where it has any
texts-come : (files : Files) (mode : Mode) (g : Grade) (from : World) (trips : List Trip) (names cards : List (List ℕ))
    (file : WorldFile) (texts notes : List (List ℕ)) (t u : List ℕ) (a : Answer) → HoldsFrozen (Some files) mode t
    → HoldsFrozen (Some files) mode u → PlaysTexts g from trips (played mode names cards file) texts notes t a
    → PlaysTexts g from trips (played mode names cards file) texts notes u a
texts-come files Whole g from trips names cards file texts notes t u a h k p = p
texts-come files Handing g from trips names cards file texts notes t u a h k p = p
texts-come files Freezing g from trips names cards file texts notes t u a h k p = p
texts-come files (Inspecting at) g from trips names cards file texts notes t u a h k p = p
texts-come files (Thawing name) g from trips names cards file texts notes t u a h k p =
    subst (λ (z : List ℕ). PlaysTexts g from trips (played (Thawing name) names cards file) texts notes z a)
    (text-one files name t u h k) p
texts-come files (Viewing name) g from trips names cards file texts notes t u a h k p =
    subst (λ (z : List ℕ). PlaysTexts g from trips (played (Viewing name) names cards file) texts notes z a)
    (text-one files name t u h k) p

-- the answer to a play whose scripts and notecards have these texts
pub plays-texts : (files : Files) (g : Grade) (from : World) (trips : List Trip) (play : Play)
    (texts notes : List (List ℕ)) (text : List ℕ) (a : Answer) → AreHeld (Some files) play.names texts
    → AreHeld (Some files) play.cards notes → HoldsFrozen (Some files) play.mode text
    → Plays g (Some files) from trips play a → PlaysTexts g from trips play texts notes text a
plays-texts files g from trips play texts notes text a are noted holds (read, had, q) =
    texts-come files play.mode g from trips play.names play.cards play.world texts notes read.frozen text a had.frozen
    holds
    (subst (λ (z : List (List ℕ)). PlaysTexts g from trips play texts z read.frozen a)
    (texts-one files play.cards read.notes notes had.cards noted)
    (subst (λ (z : List (List ℕ)). PlaysTexts g from trips play z read.notes read.frozen a)
    (texts-one files play.names read.texts texts had.scripts are) q))

-- where they are accepted as these programs and have this code, and the others are these notecards, the result is of
-- these
pub texts-accepted : (g : Grade) (from : World) (trips : List Trip) (play : Play) (texts notes : List (List ℕ))
    (text : List ℕ) (programs : List Program) (codes : List Code) (cards : List (List (List ℕ))) (a : Answer)
    → AreAccepted texts programs → AreCodesOf texts codes → AreCards notes cards
    → PlaysTexts g from trips play texts notes text a
    → Comes g from trips play.mode texts codes programs play.world (notecards_of play.world.notes cards) text a
texts-accepted g from trips play texts notes text programs codes cards a all has read
    (inl (ps, cs, accepted, have, e)) =
    go (subst (λ (z : List Code). PlaysAccepted g from trips play texts z programs notes text a)
    (codes-one texts cs codes have has)
    (subst (λ (z : List Program). PlaysAccepted g from trips play texts cs z notes text a)
    (programs-one texts ps programs accepted all) e))
  where
    go : PlaysAccepted g from trips play texts codes programs notes text a
        → Comes g from trips play.mode texts codes programs play.world (notecards_of play.world.notes cards) text a
    go (inl (ds, other, f)) =
        subst (λ (z : List (List (List ℕ))). Comes g from trips play.mode texts codes programs play.world
        (notecards_of play.world.notes z) text a) (cards-one notes ds cards other read) f
    go (inr (name, fault, r, f)) = absurd (cards-bad notes cards r.place fault read r.bad)
texts-accepted g from trips play texts notes text programs codes cards a all has read (inr (name, fault, r, e)) =
    absurd (accepted-refused texts programs r.place fault all r.refused)

-- and where only the programs and notecards are known, by some code
pub plays-programs : (files : Files) (g : Grade) (from : World) (trips : List Trip) (play : Play)
    (programs : List Program) (cards : List (List (List ℕ))) (a : Answer) (texts notes : List (List ℕ))
    → AreHeld (Some files) play.names texts → AreAccepted texts programs → AreHeld (Some files) play.cards notes
    → AreCards notes cards → Plays g (Some files) from trips play a
    → (codes : List Code) × (text : List ℕ)
    × Comes g from trips play.mode texts codes programs play.world (notecards_of play.world.notes cards) text a
plays-programs files g from trips play programs cards a texts notes are all noted read (bytes, had, q) =
    go (subst (λ (z : List (List ℕ)). PlaysTexts g from trips play texts z bytes.frozen a)
    (texts-one files play.cards bytes.notes notes had.cards noted)
    (subst (λ (z : List (List ℕ)). PlaysTexts g from trips play z bytes.notes bytes.frozen a)
    (texts-one files play.names bytes.texts texts had.scripts are) q))
  where
    go : PlaysTexts g from trips play texts notes bytes.frozen a
        → (codes : List Code) × (text : List ℕ)
        × Comes g from trips play.mode texts codes programs play.world (notecards_of play.world.notes cards) text a
    go (inl (ps, cs, h, has, e)) = (
      cs,
      bytes.frozen,
      texts-accepted g from trips play texts notes bytes.frozen programs cs cards a all has read
          (inl (ps, cs, h, has, e)),
    )
    go (inr (name, fault, r, e)) = absurd (accepted-refused texts programs r.place fault all r.refused)

plays-one : (files : Files) (g h : Grade) (from : World) (trips : List Trip) (play : Play) (a b : Answer)
    → Plays g (Some files) from trips play a → Plays h (Some files) from trips play b → a ≡ b
plays-one files g h from trips play a b p (read, had, q) =
    plays-texts-one g h from trips play read.texts read.notes read.frozen a b
    (plays-texts files g from trips play read.texts read.notes read.frozen a had.scripts had.cards had.frozen p) q

checks-one : (name text : List ℕ) (a b : Answer) → Checks name text a → Checks name text b → a ≡ b
checks-one name text a b (inl (p, h, e)) (inl (q, k, f)) = e ∙ sym f
checks-one name text a b (inl (p, h, e)) (inr (g, k, f)) = absurd (no_fault text p g h k)
checks-one name text a b (inr (g, h, e)) (inl (q, k, f)) = absurd (no_fault text q g k h)
checks-one name text a b (inr (f, h, e)) (inr (g, k, d)) =
    e ∙ ap (λ fault. script_refused name fault) (one_fault text f g h k) ∙ sym d

pub world-one : (bytes : List ℕ) (f g : WorldFile) → IsWorld bytes f → IsWorld bytes g → f ≡ g
world-one bytes f g h k = ap value (sym h ∙ k)
  where
    value : Result WorldFile FileFault → WorldFile
    value (OkResult file) = file
    value (Err fault) = f

world-no_fault : (bytes : List ℕ) (file : WorldFile) (fault : FileFault) → IsWorld bytes file
    → FileFirst bytes fault → ⊥
world-no_fault bytes file fault h e = let both : OkResult file ≡ Err fault = sym h ∙ e in cc

world-fault-one : (bytes : List ℕ) (f g : FileFault) → FileFirst bytes f → FileFirst bytes g → f ≡ g
world-fault-one bytes f g e k = ap value (sym e ∙ k)
  where
    value : Result WorldFile FileFault → FileFault
    value (OkResult file) = f
    value (Err fault) = fault

-- what is answered to a world file is what is answered to its play
pub replays-plays : (files : Files) (g : Grade) (from : World) (trips : List Trip) (mode : Mode) (name bytes : List ℕ)
    (file : WorldFile) (answer : Answer) → Holds (Some files) name bytes → IsWorld bytes file
    → ReplaysFile g (Some files) from trips mode name answer
    → Plays g (Some files) from trips (play_of mode (file_in mode file)) answer
replays-plays files g from trips mode name bytes file answer is good (other, k, q) =
    go (subst (λ (z : List ℕ). Replays g (Some files) from trips mode name z answer)
    (text-one files name other bytes k is) q)
  where
    go : Replays g (Some files) from trips mode name bytes answer
        → Plays g (Some files) from trips (play_of mode (file_in mode file)) answer
    go (inl (f, h, p)) =
        subst (λ (z : WorldFile). Plays g (Some files) from trips (play_of mode (file_in mode z)) answer)
        (world-one bytes f file h good) p
    go (inr (fault, h, e)) = absurd (world-no_fault bytes file fault good h)

replays-one : (files : Files) (g h : Grade) (from : World) (trips : List Trip) (mode : Mode) (name bytes : List ℕ)
    (a b : Answer) → Replays g (Some files) from trips mode name bytes a
    → Replays h (Some files) from trips mode name bytes b → a ≡ b
replays-one files g h from trips mode name bytes a b (inl (f, w, p)) (inl (d, k, q)) =
    plays-one files g h from trips (play_of mode (file_in mode d)) a b
    (subst (λ (z : WorldFile). Plays g (Some files) from trips (play_of mode (file_in mode z)) a) (world-one bytes f d w k) p) q
replays-one files g h from trips mode name bytes a b (inl (f, w, p)) (inr (d, k, q)) =
    absurd (world-no_fault bytes f d w k)
replays-one files g h from trips mode name bytes a b (inr (f, w, p)) (inl (d, k, q)) =
    absurd (world-no_fault bytes d f k w)
replays-one files g h from trips mode name bytes a b (inr (f, w, e)) (inr (d, k, c)) =
    e ∙ ap (λ (fault : FileFault). world_refused name fault) (world-fault-one bytes f d w k) ∙ sym c

pub files-one : (files : Files) (g h : Grade) (from : World) (trips : List Trip) (mode : Mode) (name : List ℕ)
    (a b : Answer) → ReplaysFile g (Some files) from trips mode name a
    → ReplaysFile h (Some files) from trips mode name b → a ≡ b
files-one files g h from trips mode name a b (bytes, is, p) (other, k, q) =
    replays-one files g h from trips mode name other a b
    (subst (λ (z : List ℕ). Replays g (Some files) from trips mode name z a) (text-one files name bytes other is k) p) q

pub answers-one : AnswersAreOne
answers-one files from trips (Once name) g h a b p q = plays-one files g h from trips (play_of_once name) a b p q
answers-one files from trips (Check name) g h a b (text, is, p) (other, k, q) =
    checks-one name other a b
    (subst (λ (z : List ℕ). Checks name z a) (text-one files name text other is k) p) q
answers-one files from trips (Replay name) g h a b p q = files-one files g h from trips Whole name a b p q
answers-one files from trips (Lossy name) g h a b p q = files-one files g h from trips Handing name a b p q
answers-one files from trips (Freeze name) g h a b p q = files-one files g h from trips Freezing name a b p q
answers-one files from trips (Thaw frozen name) g h a b p q =
    files-one files g h from trips (Thawing frozen) name a b p q
answers-one files from trips (View frozen name) g h a b p q =
    files-one files g h from trips (Viewing frozen) name a b p q
answers-one files from trips (State at name) g h a b p q =
    files-one files g h from trips (Inspecting at) name a b p q
answers-one files from trips (Make number) g h a b (one, p, e) (other, q, f) =
    e ∙ ap (λ (z : Answer). summed number z)
    (files-one (made_files number) g h from trips Whole made_name one other p q) ∙ sym f
