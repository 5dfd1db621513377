-- One run in two halves.
use Rattle.std.proofs.Common.{◌≡◌, ℕ, ◌≤◌, List, [], ◌∷◌, ◌++◌, length, Some, inl, inr, refl, sym, ap, ap₂, ◌∙◌, subst, append-nil, append_assoc}
use Rattle.std.specs.Prelude.{map}
use Rattle.std.proofs.lemmas.List.{length-map}
use Rattle.lsl_ports.specs.Shelf.{Files}
use Rattle.lsl_ports.specs.Trips.{Trip}
use Rattle.lsl_code.specs.declared.woven_units.Woven.{Woven as Code}
use Rattle.lsl_build.specs.Codes.{AreCodesOf}
use Rattle.lsl_image.specs.Images.{WorldImage}
use Rattle.lsl_lines.specs.Frozen.{IsFrozen, frozen_line}
use Rattle.lsl_lines.specs.Journal.{joined, lines_of, words_of}
use Rattle.lsl_lines.specs.declared.file.NoteLine.{NoteLine}
use Rattle.lsl_lines.specs.declared.file.ObjectLine.{ObjectLine}
use Rattle.lsl_lines.specs.declared.file.Step.{Step}
use Rattle.lsl_lines.specs.declared.file.WorldFile.{WorldFile}
use Rattle.lsl_notes.specs.declared.cards.Notecard.{Notecard}
use Rattle.lsl_post.specs.declared.entries.Entry.{Entry}
use Rattle.lsl_post.specs.Told.{Told, next_to}
use Rattle.lsl_tree.specs.Program.{Program}
use Rattle.lsl_script.specs.Rules.{Rules}
use Rattle.lsl_region.specs.GridParts.{fixed_in}
use Rattle.lsl_region.specs.Worlds.{World}
use Rattle.lsl_world.specs.Frozen.{IsImageIn, frozen_image, parts_of_world, shape_of_line, shapes_of_file}
use Rattle.lsl_world.specs.Laws.{Fits}
use Rattle.lsl_world.specs.Programs.{rules_of}
use Rattle.lsl_world.specs.Reports.{homes}
use Rattle.lsl_world.specs.Starts.{members_of_objects, object_of_line, start}
use Rattle.lsl_world.specs.Travels.{images, travel}
use Rattle.lsl_world.proofs.Runs.{images-then, travel-then}
use Rattle.lsl_top.specs.Answers.{Answer, Comes, ComesFromStart, Due, Grade, PlaysTexts, ReplaysFile, Written, run_answer}
use Rattle.lsl_top.specs.Halves.{AreHalves, IsOnShelf, TwoHalvesAreOneRun}
use Rattle.lsl_top.specs.Held.{HoldsFrozen}
use Rattle.lsl_top.specs.Notes.{AreCards, notecards_of}
use Rattle.lsl_top.specs.Pieces.{lines_in, pieces_from, sent_in}
use Rattle.lsl_top.specs.Plays.{Last, Homes, Frozen, Mode, Whole, Freezing, Thawing, file_in, play_of}
use Rattle.lsl_top.specs.Scripts.{AreAccepted}
use Rattle.lsl_top.specs.Thaws.{CanThaw}
use Rattle.lsl_top.specs.declared.status.Status.TheVariants.{Ok, BadNote, BadScript}
use Rattle.lsl_top.proofs.FrozenOne.{AreLines, line-frozen}
use Rattle.lsl_top.proofs.Journals.{pieces-images, pieces-lines}
use Rattle.lsl_top.proofs.OneAnswer.{plays-texts, replays-plays, texts-accepted, thaw-no_fault}
use Rattle.lsl_top.proofs.Outputs.{thaw-fits}
use Rattle.lsl_top.proofs.Written.{lines-append}

-- ---- lines of entries end with a line feed

lines-then : (xs ys : List ℕ) → AreLines ys → AreLines (xs ++ 10 ∷ []) → AreLines ((xs ++ 10 ∷ []) ++ ys)
lines-then xs ys (inl e) h = inr (xs, ap (λ (z : List ℕ). (xs ++ 10 ∷ []) ++ z) e ∙ append-nil (xs ++ 10 ∷ []))
lines-then xs ys (inr (front, e)) h = inr (
  (xs ++ 10 ∷ []) ++ front,
  ap (λ (z : List ℕ). (xs ++ 10 ∷ []) ++ z) e ∙ sym (append_assoc (xs ++ 10 ∷ []) front (10 ∷ [])),
)

entries-lines : (entries : List Entry) → AreLines (lines_of entries)
entries-lines [] = inl refl
entries-lines (e ∷ entries) =
    lines-then (joined (words_of e)) (lines_of entries) (entries-lines entries) (inr (joined (words_of e), refl))

-- ---- worlds of files with the same objects

start-same : (programs : List Program) (first second : WorldFile) (cards : List Notecard)
    → first.objects ≡ second.objects → start (rules_of programs) first cards ≡ start (rules_of programs) second cards
start-same programs first second cards e = λ i. record {
  clock = 0;
  objects = map object_of_line (e i);
  members = members_of_objects (rules_of programs) 0 (e i);
  cards = cards;
}

shapes-same : (first second : WorldFile) → first.objects ≡ second.objects
    → shapes_of_file first ≡ shapes_of_file second
shapes-same first second e = ap (λ (os : List ObjectLine). map shape_of_line os) e

can-thaw-same : (codes : List Code) (programs : List Program) (first second : WorldFile) (cards : List Notecard)
    (w : World) → first.objects ≡ second.objects → CanThaw codes programs first cards w
    → CanThaw codes programs second cards w
can-thaw-same codes programs first second cards w e h = record {
  agrees = record {
    fixed = h.agrees.fixed ∙ ap fixed_in (start-same programs first second cards e);
    lawful = h.agrees.lawful;
  };
  image = subst (λ shapes. WorldImage shapes codes (parts_of_world codes w) (frozen_image codes w))
      (shapes-same first second e) h.image;
  bytes = h.bytes;
}

-- ---- what comes of files whose scripts and notecards have these texts

-- the answer of a play of these texts, with its file there
file-comes : (g : Grade) (files : Files) (from : World) (trips : List Trip) (mode : Mode) (name : List ℕ)
    (file : WorldFile) (texts notes : List (List ℕ)) (text : List ℕ) (answer : Answer)
    → IsOnShelf files name file texts notes → HoldsFrozen (Some files) mode text
    → ReplaysFile g (Some files) from trips mode name answer
    → PlaysTexts g from trips (play_of mode (file_in mode file)) texts notes text answer
file-comes g files from trips mode name file texts notes text answer shelf holds h =
    let (bytes, is, good) = shelf.world in
    plays-texts files g from trips (play_of mode (file_in mode file)) texts notes text answer shelf.scripts shelf.cards holds
    (replays-plays files g from trips mode name bytes file answer is good h)

-- texts of which a run was answered are accepted, and are notecards
record IsRunOf (g : Grade) (trips : List Trip) (last : Last) (file : WorldFile) (texts notes : List (List ℕ))
    (answer : Answer) : Type 0 where
  programs : List Program
  codes : List Code
  cards : List (List (List ℕ))
  accepted : AreAccepted texts programs
  has : AreCodesOf texts codes
  read : AreCards notes cards
  comes : ComesFromStart g trips last codes programs file (notecards_of file.notes cards) answer

froze-run : (g : Grade) (from : World) (trips : List Trip) (file : WorldFile) (texts notes : List (List ℕ))
    (text : List ℕ) (answer : Answer) → answer.status ≡ Ok
    → PlaysTexts g from trips (play_of Freezing file) texts notes text answer
    → IsRunOf g trips Frozen file texts notes answer
froze-run g from trips file texts notes text answer well
    (inl (programs, codes, accepted, has, inl (cards, read, comes))) =
    record {
      programs = programs;
      codes = codes;
      cards = cards;
      accepted = accepted;
      has = has;
      read = read;
      comes = comes;
    }
froze-run g from trips file texts notes text answer well
    (inl (programs, codes, accepted, has, inr (name, fault, first, e))) =
    let both : BadNote ≡ Ok = sym (ap (λ (a : Answer). a.status) e) ∙ well in absurd (cc)
froze-run g from trips file texts notes text answer well (inr (name, fault, first, e)) =
    let both : BadScript ≡ Ok = sym (ap (λ (a : Answer). a.status) e) ∙ well in absurd (cc)

-- what is thawed from a world that the text has is a run from it
thawed-run : (from : World) (trips : List Trip) (frozen : List ℕ) (texts : List (List ℕ)) (codes : List Code) (programs : List Program)
    (file : WorldFile) (cards : List Notecard) (text image : List ℕ) (answer : Answer) → IsFrozen text image
    → IsImageIn codes file (parts_of_world codes from) image
    → Comes Due from trips (Thawing frozen) texts codes programs file cards text answer
    → answer ≡ run_answer Homes codes programs file trips from
thawed-run from trips frozen texts codes programs file cards text image answer is stands (inl (parts, thaw, e)) = e
thawed-run from trips frozen texts codes programs file cards text image answer is stands (inr (fault, first, e)) =
    absurd (thaw-no_fault codes file text (parts_of_world codes from) fault (image, is, stands) first)

-- ---- the two runs

module _ (codes : List Code) (programs : List Program) (first second whole : WorldFile)
    (h : AreHalves first second whole)
    (cards : List Notecard) (before behind : List Trip)
    (fits : Fits codes (rules_of programs) first.steps before (start (rules_of programs) first cards)) where
  abbrev r : Rules
  r = rules_of programs

  abbrev begin : World
  begin = start r first cards

  abbrev middle : Told World
  middle = travel r first.steps before begin

  abbrev end : Told World
  end = travel r second.steps behind middle.value

  whole-told : travel r whole.steps (before ++ behind) (start r whole cards)
      ≡ next_to middle (λ v. travel r second.steps behind v)
  whole-told =
      ap (λ (w : World). travel r whole.steps (before ++ behind) w)
      (sym (start-same programs first whole cards h.first_objects))
      ∙ ap (λ (steps : List Step). travel r steps (before ++ behind) begin) h.steps
      ∙ travel-then codes r first.steps second.steps before behind begin fits

  pub whole-lines : lines_in (pieces_from Homes codes r whole.steps (before ++ behind) (start r whole cards))
      ≡ lines_of middle.entries ++ lines_in (pieces_from Homes codes r second.steps behind middle.value)
  whole-lines =
      pieces-lines Homes codes r whole.steps (before ++ behind) (start r whole cards)
      ∙ ap (λ (a : Told World). lines_of a.entries ++ lines_of (homes a.value)) whole-told
      ∙ ap (λ (z : List ℕ). z ++ lines_of (homes end.value)) (lines-append middle.entries end.entries)
      ∙ append_assoc (lines_of middle.entries) (lines_of end.entries) (lines_of (homes end.value))
      ∙ ap (λ (z : List ℕ). lines_of middle.entries ++ z)
      (sym (pieces-lines Homes codes r second.steps behind middle.value))

  pub whole-sent : sent_in (pieces_from Homes codes r whole.steps (before ++ behind) (start r whole cards))
      ≡ sent_in (pieces_from Frozen codes r first.steps before begin)
      ++ sent_in (pieces_from Homes codes r second.steps behind middle.value)
  whole-sent =
      pieces-images Homes codes r whole.steps (before ++ behind) (start r whole cards)
      ∙ ap (λ (w : World). images codes r whole.steps (before ++ behind) w)
      (sym (start-same programs first whole cards h.first_objects))
      ∙ ap (λ (steps : List Step). images codes r steps (before ++ behind) begin) h.steps
      ∙ images-then codes r first.steps second.steps before behind begin fits
      ∙ sym (ap₂ (λ (xs ys : List (List ℕ)). xs ++ ys) (pieces-images Frozen codes r first.steps before begin)
      (pieces-images Homes codes r second.steps behind middle.value))

pub halves-one : TwoHalvesAreOneRun
halves-one files more all first_name second_name whole_name frozen first second whole texts notes from before behind
    froze halves one two three given held short =
    let run = froze-run Written from before first texts notes [] froze given.well
    (file-comes Written files from before Freezing first_name first texts notes [] froze one tt given.answers) in
    let codes = run.codes in
    let programs = run.programs in
    let r = rules_of programs in
    let cards = notecards_of first.notes run.cards in
    let begin = start r first cards in
    let w = (travel r first.steps before begin).value in
    let entries = (travel r first.steps before begin).entries in
    let image = frozen_image codes w in
    let (can, e) = run.comes in
    let objects : first.objects ≡ second.objects = halves.first_objects ∙ sym halves.second_objects in
    let second_cards : cards ≡ notecards_of second.notes run.cards =
    ap (λ (lines : List NoteLine). notecards_of lines run.cards) (halves.first_notes ∙ sym halves.second_notes) in
    let whole_cards : cards ≡ notecards_of whole.notes run.cards =
    ap (λ (lines : List NoteLine). notecards_of lines run.cards) halves.first_notes in
    let there = subst (λ (z : List Notecard). CanThaw codes programs second z w) second_cards
    (can-thaw-same codes programs first second cards w objects can) in
    let written : lines_in froze.pieces ≡ lines_of entries ++ frozen_line image =
    ap (λ (a : Answer). lines_in a.pieces) e ∙ pieces-lines Frozen codes r first.steps before begin in
    let sends : sent_in froze.pieces ≡ images codes r first.steps before begin =
    ap (λ (a : Answer). sent_in a.pieces) e ∙ pieces-images Frozen codes r first.steps before begin in
    let fits : Fits codes r first.steps before begin =
    sym (length-map before (λ (t : Trip). t.sent)) ∙ ap (λ (z : List (List ℕ)). length z) (given.sent ∙ sends) in
    let text : List ℕ = lines_in froze.pieces in
    let of : IsFrozen text image = subst (λ (z : List ℕ). IsFrozen z image) (sym written)
    (line-frozen (lines_of entries) image (entries-lines entries) can.bytes
    (subst (λ (z : List ℕ). length z ≤ 2147483647) written short)) in
    record {
      world = w;
      from = thaw-fits more frozen second_name second texts notes programs codes run.cards w two.world two.scripts
          run.accepted run.has two.cards run.read (text, image, held, of, there.agrees, there.image);
      journal = lines_of entries;
      image = image;
      written = written;
      one = λ thawed answer thaws replays.
          let second_is = thawed-run w behind frozen texts codes programs second
          (notecards_of second.notes run.cards) text image
          thawed of there.image
          (texts-accepted Due w behind
          (play_of (Thawing frozen) second) texts notes text programs codes run.cards thawed
          run.accepted run.has run.read
          (file-comes Due more w behind (Thawing frozen) second_name second texts notes text thawed two held thaws)) in
          let comes = texts-accepted Due w (before ++ behind)
          (play_of Whole whole) texts notes [] programs codes run.cards
          answer run.accepted run.has run.read
          (file-comes Due all w (before ++ behind) Whole whole_name whole texts notes [] answer three tt replays) in
          let whole_is = subst (λ (z : List Notecard). answer
          ≡ run_answer Homes codes programs whole (before ++ behind) (start r whole z)) (sym whole_cards) comes.1 in
          record {
            well = (ap (λ (a : Answer). a.status) second_is, ap (λ (a : Answer). a.status) whole_is);
            lines = ap (λ (a : Answer). lines_in a.pieces) whole_is
                ∙ whole-lines codes programs first second whole halves cards before behind fits
                ∙ ap (λ (a : Answer). lines_of entries ++ lines_in a.pieces) (sym second_is);
            sent = ap (λ (a : Answer). sent_in a.pieces) whole_is
                ∙ whole-sent codes programs first second whole halves cards before behind fits
                ∙ sym (ap₂ (λ (a b : Answer). sent_in a.pieces ++ sent_in b.pieces) e second_is);
          };
    }
