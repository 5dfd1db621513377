-- What a command that runs a world is to write is what its answer has, from that world.
use Rattle.std.proofs.Common.{◌≡◌, ℕ, List, [], ◌∷◌, Some, inl, inr, refl, sym, ap, ◌∙◌, subst, append-nil}
use Rattle.std.specs.List.{AllZip}
use Rattle.lsl_ports.specs.Shelf.{Files}
use Rattle.lsl_ports.specs.Growth.{Begins}
use Rattle.lsl_ports.specs.Trips.{Trip, sent_of}
use Rattle.lsl_code.specs.declared.woven_units.Woven.{Woven as Code}
use Rattle.lsl_image.specs.declared.parts.WorldParts.{WorldParts}
use Rattle.lsl_image.specs.World.{world}
use Rattle.lsl_image.proofs.ImageLemmas.{image-one}
use Rattle.lsl_build.specs.Codes.{AreCodesOf}
use Rattle.lsl_lines.specs.Frozen.{IsFrozen}
use Rattle.lsl_lines.specs.Journal.{lines_of}
use Rattle.lsl_lines.specs.World.{IsWorld}
use Rattle.lsl_lines.specs.declared.file.WorldFile.{WorldFile}
use Rattle.lsl_notes.specs.declared.cards.Notecard.{Notecard}
use Rattle.lsl_tree.specs.Program.{Program}
use Rattle.lsl_region.specs.Worlds.{World}
use Rattle.lsl_view.specs.Globals.{HaveGlobals}
use Rattle.lsl_view.specs.Names.{AreNamedBy, script_names}
use Rattle.lsl_view.specs.Parts.{view_of_parts}
use Rattle.lsl_view.specs.Source.{view_of_world}
use Rattle.lsl_view.proofs.Members.{views_are_of_the_source}
use Rattle.lsl_world.specs.Codes.{AreRunBy}
use Rattle.lsl_world.specs.Frozen.{AgreesWith, IsImageIn, parts_of_world, shapes_of_file}
use Rattle.lsl_world.specs.Lossy.{WereCarried}
use Rattle.lsl_world.specs.Programs.{rules_of}
use Rattle.lsl_world.specs.Reports.{journal_of}
use Rattle.lsl_world.specs.Starts.{start}
use Rattle.lsl_top.specs.Answers.{Answer, Answers, Comes, Grade, lossy_answer, made_piece, run_answer, Shows}
use Rattle.lsl_top.specs.Fair.{IsFairOf}
use Rattle.lsl_top.specs.Froms.{IsFromOf}
use Rattle.lsl_top.specs.Headline.{IsCardIn, IsFrozenIn, IsScriptIn, IsWorldIn, Outputs, frozen_from, lossy_report, output_from, report_from}
use Rattle.lsl_top.specs.Held.{AreHeld}
use Rattle.lsl_top.specs.Made.{made_files, made_line, made_name}
use Rattle.lsl_top.specs.Notes.{AreCards, notecards_of}
use Rattle.lsl_top.specs.Pieces.{lines_in, sent_in}
use Rattle.lsl_top.specs.Plays.{Last, Homes, Frozen, Whole, Handing, Freezing, Inspecting, Thawing, Viewing, inspected, names_in, once_world, play_of, play_of_once, cards_in}
use Rattle.lsl_top.specs.Positions.{file_until}
use Rattle.lsl_top.specs.Scripts.{AreAccepted}
use Rattle.lsl_top.specs.Thaws.{IsFrom}
use Rattle.lsl_top.specs.Words.{Command, Once, Check, Replay, Lossy, Freeze, Thaw, Make, View, State}
use Rattle.lsl_top.specs.declared.status.Status.TheVariants.{Ok}
use Rattle.lsl_top.proofs.FrozenOne.{frozen-one}
use Rattle.lsl_top.proofs.Journals.{journal-pieces}
use Rattle.lsl_top.proofs.LossyJournals.{lossy-journal}
use Rattle.lsl_top.proofs.Summed.{summed-well}
use Rattle.lsl_top.proofs.OneAnswer.{globals-one, plays-programs, plays-texts, programs-one, replays-plays, text-one, texts-accepted, texts-one, thaw-no_fault, world-one, thawed-one}
use Rattle.lsl_top.proofs.CodesRun.{codes-named, codes-run}
use Rattle.lsl_top.proofs.OneText.{some-one}
use Rattle.lsl_top.proofs.OneCard.{cards-one}
use Rattle.lsl_top.proofs.OneCode.{codes-one}

-- the texts of scripts that are accepted
abbrev TextsOf : Files → List (List ℕ) → List Program → Type 0
TextsOf files names programs = (texts : List (List ℕ)) × AreHeld (Some files) names texts × AreAccepted texts programs

texts-of : (files : Files) (names : List (List ℕ)) (programs : List Program) → AllZip (IsScriptIn files) names programs
    → TextsOf files names programs
texts-of files [] [] h = ([], tt, tt)
texts-of files (name ∷ names) (p ∷ programs) h =
    let (text, is, accepted) = h.0 in
    let (texts, are, all) = texts-of files names programs h.1 in
    (text ∷ texts, (is, are), (accepted, all))
texts-of files [] (p ∷ programs) h = absurd h
texts-of files (name ∷ names) [] h = absurd h

-- the texts that have this code are those that are accepted
accepted-texts : (files : Files) (names : List (List ℕ)) (programs : List Program) (texts : List (List ℕ))
    → AllZip (IsScriptIn files) names programs → AreHeld (Some files) names texts → AreAccepted texts programs
accepted-texts files names programs texts h are =
    let (others, held, all) = texts-of files names programs h in
    subst (λ (z : List (List ℕ)). AreAccepted z programs) (texts-one files names others texts held are) all

-- the command ends well, and these are its lines
pub record IsOutput (lines : List ℕ) (answer : Answer) : Type 0 where
  pub well : answer.status ≡ Ok
  pub is : lines_in answer.pieces ≡ lines

run-output : (last : Last) (codes : List Code) (programs : List Program) (file : WorldFile) (trips : List Trip)
    (w : World) (lines : List ℕ) (answer : Answer) → answer ≡ run_answer last codes programs file trips w
    → lines ≡ output_from last codes programs file trips w → IsOutput lines answer
run-output last codes programs file trips w lines answer e are = record {
  well = ap (λ (a : Answer). a.status) e;
  is = ap (λ (a : Answer). lines_in a.pieces) e ∙ journal-pieces last codes programs file trips w ∙ sym are;
}

-- where first ones of its notes were handed over, a run by notes is the journal of the kept steps
lossy-output : (codes : List Code) (programs : List Program) (file : WorldFile) (trips : List Trip)
    (cards : List Notecard) (bytes lines : List ℕ) (answer : Answer) → IsWorld bytes file
    → answer ≡ lossy_answer codes programs file trips (start (rules_of programs) file cards)
    → WereCarried [] trips → Begins (sent_of trips) (sent_in answer.pieces)
    → lines ≡ lossy_report programs file trips (start (rules_of programs) file cards) → IsOutput lines answer
lossy-output codes programs file trips cards bytes lines answer good e fair sends are = record {
  well = ap (λ (a : Answer). a.status) e;
  is = ap (λ (a : Answer). lines_in a.pieces) e
      ∙ lossy-journal codes programs file trips cards bytes good fair
      (subst (λ (a : Answer). Begins (sent_of trips) (sent_in a.pieces)) e sends)
      ∙ sym are;
}

thaw-output : (g : Grade) (from : World) (trips : List Trip) (name : List ℕ) (texts : List (List ℕ)) (codes : List Code)
    (programs : List Program) (file : WorldFile) (cards : List Notecard) (text image : List ℕ) (lines : List ℕ)
    (answer : Answer) → IsFrozen text image → IsImageIn codes file (parts_of_world codes from) image
    → lines ≡ report_from programs file trips from
    → Comes g from trips (Thawing name) texts codes programs file cards text answer → IsOutput lines answer
thaw-output g from trips name texts codes programs file cards text image lines answer is stands are (inl (parts, thaw, e)) =
    run-output Homes codes programs file trips from lines answer e are
thaw-output g from trips name texts codes programs file cards text image lines answer is stands are (inr (fault, first, e)) =
    absurd (thaw-no_fault codes file text (parts_of_world codes from) fault (image, is, stands) first)

-- the texts of notecards
abbrev NotesOf : Files → List (List ℕ) → List (List (List ℕ)) → Type 0
NotesOf files names cards = (notes : List (List ℕ)) × AreHeld (Some files) names notes × AreCards notes cards

notes-of : (files : Files) (names : List (List ℕ)) (cards : List (List (List ℕ)))
    → AllZip (IsCardIn files) names cards → NotesOf files names cards
notes-of files [] [] h = ([], tt, tt)
notes-of files (name ∷ names) (c ∷ cards) h =
    let (note, is, read) = h.0 in
    let (notes, are, all) = notes-of files names cards h.1 in
    (note ∷ notes, (is, are), (read, all))
notes-of files [] (c ∷ cards) h = absurd h
notes-of files (name ∷ names) [] h = absurd h

-- what is shown of a world that the text has is what its scripts' texts have there
view-output : (from : World) (name : List ℕ) (codes : List Code) (programs : List Program) (file : WorldFile)
    (cards : List Notecard) (text image lines : List ℕ) (answer : Answer) → AreRunBy programs codes
    → AreNamedBy programs codes → IsFrozen text image → AgreesWith programs file cards from
    → IsImageIn codes file (parts_of_world codes from) image
    → lines ≡ view_of_world programs from → Shows codes file name text answer → IsOutput lines answer
view-output from name codes programs file cards text image lines answer run named is agrees stands are
    (inl (parts, thaw, e)) =
    let same = thawed-one codes file text parts (parts_of_world codes from) thaw (image, is, stands) in record {
      well = ap (λ (a : Answer). a.status) e;
      is = ap (λ (a : Answer). lines_in a.pieces) e ∙ append-nil (view_of_parts codes (script_names file) parts)
          ∙ ap (λ (p : WorldParts). view_of_parts codes (script_names file) p) same
          ∙ views_are_of_the_source programs codes file cards from run named agrees ∙ sym are;
    }
view-output from name codes programs file cards text image lines answer run named is agrees stands are
    (inr (fault, first, e)) =
    absurd (thaw-no_fault codes file text (parts_of_world codes from) fault (image, is, stands) first)

replay-output : (g : Grade) (files : Files) (from : World) (name : List ℕ) (trips : List Trip) (lines : List ℕ)
    (answer : Answer) → Outputs files from (Replay name) trips lines
    → Answers g (Some files) from trips (Replay name) answer → IsOutput lines answer
replay-output g files from name trips lines answer (file, programs, cards, ok, e) answers =
    let (bytes, is, good) = ok.world in
    let (texts, are, all) = texts-of files (names_in file) programs ok.scripts in
    let (notes, noted, read) = notes-of files (cards_in file) ok.read ok.notes in
    let (codes, text, come) = plays-programs files g from trips (play_of Whole file) programs ok.read answer texts notes
    are all noted read (replays-plays files g from trips Whole name bytes file answer is good answers) in
    let held = notecards_of file.notes ok.read in
    run-output Homes codes programs file trips (start (rules_of programs) file held) lines answer come.1
    (subst (λ (z : List Notecard). lines ≡ lines_of (journal_of programs file z trips)) ok.cards_are e)

pub outputs-answer : (g : Grade) (files : Files) (from : World) (command : Command) (trips : List Trip)
    (lines : List ℕ) (answer : Answer) → Outputs files from command trips lines
    → Answers g (Some files) from trips command answer → IsFairOf command trips
    → Begins (sent_of trips) (sent_in answer.pieces) → IsOutput lines answer
outputs-answer g files from (Once name) trips lines answer (programs, h, e) answers fair sends =
    let (texts, are, all) = texts-of files (name ∷ []) programs h in
    let (codes, text, come) = plays-programs files g from trips (play_of_once name) programs [] answer texts [] are all
    tt tt answers in
    run-output Homes codes programs once_world trips (start (rules_of programs) once_world []) lines answer come.1 e
outputs-answer g files from (Check name) trips lines answer h answers fair sends = absurd h
outputs-answer g files from (Replay name) trips lines answer h answers fair sends =
    replay-output g files from name trips lines answer h answers
outputs-answer g files from (Lossy name) trips lines answer (file, programs, cards, ok, e) answers fair sends =
    let (bytes, is, good) = ok.world in
    let (texts, are, all) = texts-of files (names_in file) programs ok.scripts in
    let (notes, noted, read) = notes-of files (cards_in file) ok.read ok.notes in
    let (codes, text, come) = plays-programs files g from trips
    (play_of Handing file) programs ok.read answer texts notes
    are all noted read (replays-plays files g from trips Handing name bytes file answer is good answers) in
    let held = notecards_of file.notes ok.read in
    lossy-output codes programs file trips held bytes lines answer good come fair sends
    (subst (λ (z : List Notecard). lines ≡ lossy_report programs file trips (start (rules_of programs) file z))
    ok.cards_are e)
outputs-answer g files from (Freeze name) trips lines answer
    (file, programs, codes, cards, ok, (texts, are, has), e) answers fair sends =
    let (bytes, is, good) = ok.world in
    let (notes, noted, read) = notes-of files (cards_in file) ok.read ok.notes in
    let held = notecards_of file.notes ok.read in
    let come = texts-accepted g from trips (play_of Freezing file) texts notes [] programs codes ok.read answer
    (accepted-texts files (names_in file) programs texts ok.scripts are) has read
    (plays-texts files g from trips (play_of Freezing file) texts notes [] answer are noted tt
    (replays-plays files g from trips Freezing name bytes file answer is good answers)) in
    run-output Frozen codes programs file trips (start (rules_of programs) file held) lines answer come.1
    (subst (λ (z : List Notecard). lines ≡ frozen_from codes programs file trips (start (rules_of programs) file z))
    ok.cards_are e)
outputs-answer g files from (Thaw frozen name) trips lines answer
    (file, programs, codes, cards, ok, (texts, are, has), (text, image, held, of, agrees, stands), e)
    answers fair sends =
    let (bytes, is, good) = ok.world in
    let (notes, noted, read) = notes-of files (cards_in file) ok.read ok.notes in
    let come = texts-accepted g from trips
    (play_of (Thawing frozen) file) texts notes text programs codes ok.read answer
    (accepted-texts files (names_in file) programs texts ok.scripts are) has read
    (plays-texts files g from trips (play_of (Thawing frozen) file) texts notes text answer are noted held
    (replays-plays files g from trips (Thawing frozen) name bytes file answer is good answers)) in
    thaw-output g from trips frozen texts codes programs file (notecards_of file.notes ok.read) text image lines answer of
    stands e come
outputs-answer g files from (View frozen name) trips lines answer (
  file,
  programs,
  codes,
  cards,
  ok,
  (texts, are, has),
  (text, image, held, of, agrees, stands),
  e,
) answers fair sends =
    let (bytes, is, good) = ok.world in
    let (notes, noted, read) = notes-of files (cards_in file) ok.read ok.notes in
    let accepted = accepted-texts files (names_in file) programs texts ok.scripts are in
    let come = texts-accepted g from trips
    (play_of (Viewing frozen) file) texts notes text programs codes ok.read answer
    accepted has read (plays-texts files g from trips (play_of (Viewing frozen) file) texts notes text answer are noted
    held (replays-plays files g from trips (Viewing frozen) name bytes file answer is good answers)) in
    view-output from frozen codes programs file cards text image lines answer
    (codes-run texts programs codes accepted has) (codes-named texts programs codes accepted has) of agrees stands e
    come
outputs-answer g files from (State at name) trips lines answer
    (file, programs, codes, cards, globals, ok, (texts, are, has), (others, held, named), e) answers fair sends =
    let (bytes, is, good) = ok.world in
    let (notes, noted, read) = notes-of files (cards_in file) ok.read ok.notes in
    let shorter = file_until at file in
    let (found, found_named, comes) = texts-accepted g from trips (play_of (Inspecting at) shorter) texts notes []
    programs codes ok.read answer (accepted-texts files (names_in file) programs texts ok.scripts are) has read
    (plays-texts files g from trips (play_of (Inspecting at) shorter) texts notes [] answer are noted tt
    (replays-plays files g from trips (Inspecting at) name bytes file answer is good answers)) in
    let same : found ≡ globals = globals-one texts found globals found_named
    (subst (λ (z : List (List ℕ)). HaveGlobals z globals) (texts-one files (names_in file) others texts held are) named)
    in
    run-output (inspected file globals) codes programs shorter trips
    (start (rules_of programs) file (notecards_of file.notes ok.read)) lines answer
    (subst (λ (z : List (List (List ℕ))). answer ≡ run_answer (inspected file z) codes programs shorter trips
    (start (rules_of programs) file (notecards_of file.notes ok.read))) same comes.1)
    (subst (λ (z : List Notecard). lines ≡ output_from (inspected file globals) codes programs shorter trips
    (start (rules_of programs) file z)) ok.cards_are e)
outputs-answer g files from (Make number) trips lines answer (file, programs, cards, good, e) (whole, answers, f)
    fair sends =
    let report = lines_of (journal_of programs file cards trips) in
    let out : IsOutput report whole =
    replay-output g (made_files number) from made_name trips report whole (file, programs, cards, good, refl) answers in
    let well : answer ≡ record { status = Ok; pieces = made_piece number whole.pieces ∷ [] } =
    f ∙ summed-well number whole out.well in
    record {
      well = ap (λ (a : Answer). a.status) well;
      is = ap (λ (a : Answer). lines_in a.pieces) well ∙ append-nil (made_line number (lines_in whole.pieces))
          ∙ ap (λ (z : List ℕ). made_line number z) out.is ∙ sym e;
    }

-- a frozen world is that of its text
pub frozen-from : (files : Files) (frozen : List ℕ) (codes : List Code) (programs : List Program) (file : WorldFile)
    (cards : List Notecard) (from : World) (text : List ℕ) → files frozen ≡ Some text
    → IsFrozenIn files frozen codes programs file cards from → IsFrom codes programs file cards text from
frozen-from files frozen codes programs file cards from text held (other, bytes, is, of, agrees, stands) parts
    (image, given, like) =
    let same : bytes ≡ image = frozen-one text bytes image
    (subst (λ (z : List ℕ). IsFrozen z bytes) (some-one other text (sym is ∙ held)) of) given in (
      agrees,
      image-one (world (shapes_of_file file) codes) image (parts_of_world codes from) parts
          (subst (λ (z : List ℕ). IsImageIn codes file (parts_of_world codes from) z) same stands) like,
    )

-- so whatever good files the command has, the world fits them
pub thaw-fits : (files : Files) (frozen name : List ℕ) (file : WorldFile) (texts notes : List (List ℕ))
    (programs : List Program) (codes : List Code) (cards : List (List (List ℕ))) (from : World)
    → IsWorldIn files name file → AreHeld (Some files) (names_in file) texts → AreAccepted texts programs
    → AreCodesOf texts codes → AreHeld (Some files) (cards_in file) notes → AreCards notes cards
    → IsFrozenIn files frozen codes programs file (notecards_of file.notes cards) from
    → IsFromOf (Some files) (Thaw frozen name) from
thaw-fits files frozen name file texts notes programs codes cards from
    (bytes, is, good) are accepted has noted read given
    other_bytes other other_is other_good found had ps cs all have ds known_cards =
    let same : file ≡ other = world-one other_bytes file other
    (subst (λ (z : List ℕ). IsWorld z file) (text-one files name bytes other_bytes is other_is) good) other_good in
    let alike : texts ≡ found.texts = texts-one files (names_in other) texts found.texts
    (subst (λ (z : WorldFile). AreHeld (Some files) (names_in z) texts) same are) had.scripts in
    let like : notes ≡ found.notes = texts-one files (cards_in other) notes found.notes
    (subst (λ (z : WorldFile). AreHeld (Some files) (cards_in z) notes) same noted) had.cards in
    let known : AreAccepted found.texts programs = subst (λ (z : List (List ℕ)). AreAccepted z programs) alike accepted in
    let coded : AreCodesOf found.texts codes = subst (λ (z : List (List ℕ)). AreCodesOf z codes) alike has in
    let taken : AreCards found.notes cards = subst (λ (z : List (List ℕ)). AreCards z cards) like read in
    frozen-from files frozen cs ps other (notecards_of other.notes ds) from found.frozen had.frozen
    (subst (λ (z : List (List (List ℕ))). IsFrozenIn files frozen cs ps other (notecards_of other.notes z) from)
    (cards-one found.notes cards ds taken known_cards)
    (subst (λ (z : List Code). IsFrozenIn files frozen z ps other (notecards_of other.notes cards) from)
    (codes-one found.texts codes cs coded have)
    (subst (λ (z : List Program). IsFrozenIn files frozen codes z other (notecards_of other.notes cards) from)
    (programs-one found.texts programs ps known all)
    (subst (λ (z : WorldFile). IsFrozenIn files frozen codes programs z
    (notecards_of z.notes cards) from) same given))))

pub outputs-fit : (files : Files) (from : World) (command : Command) (trips : List Trip) (lines : List ℕ)
    → Outputs files from command trips lines → IsFromOf (Some files) command from
outputs-fit files from (Once name) trips lines h = tt
outputs-fit files from (Check name) trips lines h = tt
outputs-fit files from (Replay name) trips lines h =
    λ bytes file is good read are programs codes all has cards noted. tt
outputs-fit files from (Lossy name) trips lines h =
    λ bytes file is good read are programs codes all has cards noted. tt
outputs-fit files from (Freeze name) trips lines h =
    λ bytes file is good read are programs codes all has cards noted. tt
outputs-fit files from (Make number) trips lines h = tt
outputs-fit files from (Thaw frozen name) trips lines (file, programs, codes, cards, ok, (texts, are, has), given, e) =
    let (notes, noted, read) = notes-of files (cards_in file) ok.read ok.notes in
    thaw-fits files frozen name file texts notes programs codes ok.read from ok.world are
    (accepted-texts files (names_in file) programs texts ok.scripts are) has noted read
    (subst (λ (z : List Notecard). IsFrozenIn files frozen codes programs file z from) ok.cards_are given)
outputs-fit files from (State at name) trips lines h =
    λ bytes file is good read are programs codes all has cards noted. tt
outputs-fit files from (View frozen name) trips lines h =
    λ bytes file is good read are programs codes all has cards noted. tt
