-- What is written of a good world with accepted scripts, from how its request ended.
use Rattle.std.proofs.Common.{◌≡◌, ℕ, zero, suc, ◌<◌, List, [], ◌∷◌, ◌++◌, length, get_or, Option, Some, None, Result, Ok as OkResult, Err, inl, inr, refl, ap, sym, ◌∙◌, subst, arith, lit<}
use Rattle.std.specs.Prelude.{unwrap_or}
use Rattle.std.specs.List.{AllZip}
use Rattle.lsl_code.specs.declared.woven_units.Woven.{Woven as Code}
use Rattle.lsl_ports.specs.Growth.{Begins}
use Rattle.lsl_ports.specs.Shelf.{Files}
use Rattle.lsl_ports.specs.Trips.{Trip}
use Rattle.lsl_ports.proofs.Growth.{begins-is, begins-none}
use Rattle.lsl_lines.specs.Journal.{lines_of}
use Rattle.lsl_lines.specs.World.{IsWorld}
use Rattle.lsl_lines.specs.declared.faults.FileFault.{FileFault}
use Rattle.lsl_lines.specs.declared.file.Step.{Step}
use Rattle.lsl_lines.specs.declared.file.WorldFile.{WorldFile}
use Rattle.lsl_notes.specs.declared.cards.Notecard.{Notecard}
use Rattle.lsl_tree.specs.Program.{Program}
use Rattle.lsl_post.specs.declared.entries.Entry.{Entry}
use Rattle.lsl_region.specs.Worlds.{World}
use Rattle.lsl_world.specs.Programs.{rules_of}
use Rattle.lsl_world.specs.Reports.{homes, journal_of}
use Rattle.lsl_world.specs.Starts.{start}
use Rattle.lsl_world.specs.Steps.{reference}
use Rattle.lsl_world.specs.Travels.{images}
use Rattle.lsl_top.specs.Answers.{Answer, Answers, Grade, Due, Written, run_answer}
use Rattle.lsl_top.specs.Froms.{IsFromOf}
use Rattle.lsl_top.specs.Headline.{IsCardIn, IsScriptIn}
use Rattle.lsl_top.specs.Held.{AreHeld}
use Rattle.lsl_top.specs.Notes.{AreCards}
use Rattle.lsl_top.specs.Pieces.{lines_in, sent_in}
use Rattle.lsl_top.specs.Plays.{Homes, Whole, cards_in, names_in, play_of, play_of_once}
use Rattle.lsl_top.specs.Promise.{KeepsTo, Wrote, WrotePart}
use Rattle.lsl_top.specs.Scripts.{AreAccepted}
use Rattle.lsl_top.specs.Status.{number_of}
use Rattle.lsl_top.specs.Words.{Command, Once, Check, Replay, Lossy, Freeze, Thaw, Make, View, State}
use Rattle.lsl_top.specs.declared.status.Status.{Status}
use Rattle.lsl_top.specs.declared.status.Status.TheVariants.{Ok, Usage, BadWorld, BadScript, ReadFault, WriteFault, BadImage, NoMemory, BadNote}
use Rattle.lsl_top.proofs.Journals.{journal-pieces, pieces-images}
use Rattle.lsl_top.proofs.KeptFrom.{kept-from}
use Rattle.lsl_top.proofs.OneAnswer.{plays-programs, replays-plays}
use Rattle.lsl_top.proofs.Pieces.{begun-partly}
use Rattle.lsl_top.proofs.Trips.{copies-fair}
use Rattle.lsl_page.specs.Ended.{Ended}
use Rattle.lsl_page.specs.Faults.{IsMissing}
use Rattle.lsl_page.specs.Headline.{AreCopied, IsFirst, Runs, WritesJournal, whole_journal}
use Rattle.lsl_page.proofs.Arrivals.{all-kept}
use Rattle.lsl_page.proofs.Endings.{missing}

some-one : (a b : List ℕ) → Some a ≡ Some b → a ≡ b
some-one a b e = ap (λ (told : Option (List ℕ)). unwrap_or told a) e

some-none : (files : Files) (name : List ℕ) (text : List ℕ) → files name ≡ Some text → files name ≡ None → ⊥
some-none files name text is none = let both : Some text ≡ None = sym is ∙ none in absurd (cc)

-- scripts that are there and accepted have texts
texts-of : (files : Files) (names : List (List ℕ)) (programs : List Program) → AllZip (IsScriptIn files) names programs
    → (texts : List (List ℕ)) × AreHeld (Some files) names texts × AreAccepted texts programs
texts-of files [] [] h = ([], tt, tt)
texts-of files (name ∷ names) (p ∷ programs) h =
    let (text, is, accepted) = h.0 in
    let (texts, are, all) = texts-of files names programs h.1 in
    (text ∷ texts, (is, are), (accepted, all))
texts-of files [] (p ∷ programs) h = absurd h
texts-of files (name ∷ names) [] h = absurd h

-- and so have notecards
notes-of : (files : Files) (names : List (List ℕ)) (cards : List (List (List ℕ)))
    → AllZip (IsCardIn files) names cards
    → (notes : List (List ℕ)) × AreHeld (Some files) names notes × AreCards notes cards
notes-of files [] [] h = ([], tt, tt)
notes-of files (name ∷ names) (c ∷ cards) h =
    let (note, is, read) = h.0 in
    let (notes, are, all) = notes-of files names cards h.1 in
    (note ∷ notes, (is, are), (read, all))
notes-of files [] (c ∷ cards) h = absurd h
notes-of files (name ∷ names) [] h = absurd h

-- the file of each of them is there
card-there : (files : Files) (names : List (List ℕ)) (cards : List (List (List ℕ))) (place : ℕ) (name : List ℕ)
    → AllZip (IsCardIn files) names cards → place < length names → get_or names place name ≡ name
    → files name ≡ None → ⊥
card-there files [] cards place name h lt at none = absurd (omega (arith, lt))
card-there files (n ∷ names) (c ∷ cards) zero name h lt at none =
    let (text, is, read) = h.0 in some-none files n text is (ap files at ∙ none)
card-there files (n ∷ names) (c ∷ cards) (suc place) name h lt at none =
    card-there files names cards place name h.1 (omega (arith, lt)) at none
card-there files (n ∷ names) [] place name h lt at none = absurd h

script-there : (files : Files) (names : List (List ℕ)) (programs : List Program) (place : ℕ) (name : List ℕ)
    → AllZip (IsScriptIn files) names programs → place < length names → get_or names place name ≡ name
    → files name ≡ None → ⊥
script-there files [] programs place name h lt at none = absurd (omega (arith, lt))
script-there files (n ∷ names) (p ∷ programs) zero name h lt at none =
    let (text, is, accepted) = h.0 in some-none files n text is (ap files at ∙ none)
script-there files (n ∷ names) (p ∷ programs) (suc place) name h lt at none =
    script-there files names programs place name h.1 (omega (arith, lt)) at none
script-there files (n ∷ names) [] place name h lt at none = absurd h

world-one : (bytes : List ℕ) (f g : WorldFile) → IsWorld bytes f → IsWorld bytes g → f ≡ g
world-one bytes f g h k = ap value (sym h ∙ k)
  where
    value : Result WorldFile FileFault → WorldFile
    value (OkResult file) = file
    value (Err fault) = f

-- of a good world with accepted scripts every file is there
none-missing : (files : Files) (command : Command) (file : WorldFile) (programs : List Program) (cards : List Notecard)
    → Runs files command file programs cards → IsMissing files (Some command) → ⊥
none-missing files (Once name) file programs cards (is, none_held, h) (other, e, none) =
    script-there files (name ∷ []) programs 0 other h (omega arith) (sym e) none
none-missing files (Replay name) file programs cards h (other, inl frozen, none) = absurd frozen
none-missing files (Replay name) file programs cards h (other, inr (inl e), none) =
    let (bytes, there, good) = h.world in some-none files name bytes there (ap files (sym e) ∙ none)
none-missing files (Replay name) file programs cards h
    (other, inr (inr (others, world, held, read, inl (place, lt, at))), none) =
    let (bytes, there, good) = h.world in
    let same = some-one others bytes (sym held ∙ there) in
    let one = world-one bytes world file (subst (λ (z : List ℕ). IsWorld z world) same read) good in
    script-there files (names_in file) programs place other h.scripts
    (subst (λ (w : WorldFile). place < length (names_in w)) one lt)
    (subst (λ (w : WorldFile). get_or (names_in w) place other ≡ other) one at) none
none-missing files (Replay name) file programs cards h
    (other, inr (inr (others, world, held, read, inr (place, lt, at))), none) =
    let (bytes, there, good) = h.world in
    let same = some-one others bytes (sym held ∙ there) in
    let one = world-one bytes world file (subst (λ (z : List ℕ). IsWorld z world) same read) good in
    card-there files (cards_in file) h.read place other h.notes
    (subst (λ (w : WorldFile). place < length (cards_in w)) one lt)
    (subst (λ (w : WorldFile). get_or (cards_in w) place other ≡ other) one at) none
none-missing files (Check name) file programs cards h missing = absurd h
none-missing files (Lossy name) file programs cards h missing = absurd h
none-missing files (Freeze name) file programs cards h missing = absurd h
none-missing files (Thaw frozen name) file programs cards h missing = absurd h
none-missing files (View frozen name) file programs cards h missing = absurd h
none-missing files (Make number) file programs cards h missing = absurd h
none-missing files (State at name) file programs cards h missing = absurd h

module _ (files : Files) (command : Command) (file : WorldFile) (programs : List Program) (cards : List Notecard)
    (trips : List Trip) (runs : Runs files command file programs cards) (copied : AreCopied trips) where
  abbrev lines : List ℕ
  lines = lines_of (journal_of programs file cards trips)

  abbrev begun : World
  begun = start (rules_of programs) file cards

  abbrev entries_of : List Step → List Entry
  entries_of steps = let all = reference (rules_of programs) steps begun in all.entries ++ homes all.value

  -- the answer is a run of these programs in this world, by some code
  record IsRun (answer : Answer) : Type 0 where
    codes : List Code
    ended : answer.status ≡ Ok
    wrote : lines_in answer.pieces ≡ lines
    sent : sent_in answer.pieces ≡ images codes (rules_of programs) file.steps trips begun

  run-is : (answer : Answer) (codes : List Code) → answer ≡ run_answer Homes codes programs file trips begun
      → IsRun answer
  run-is answer codes e = record {
    codes = codes;
    ended = ap (λ (a : Answer). a.status) e;
    wrote = ap (λ (a : Answer). lines_in a.pieces) e ∙ journal-pieces Homes codes programs file trips begun;
    sent = ap (λ (a : Answer). sent_in a.pieces) e
        ∙ pieces-images Homes codes (rules_of programs) file.steps trips begun;
  }

  -- nothing is thawed, so the world that was frozen before may be any
  answer-run : (g : Grade) (from : World) (c : Command) → Runs files c file programs cards → (answer : Answer)
      → Answers g (Some files) from trips c answer → IsRun answer
  answer-run g from (Once name) (is, none_held, h) answer answers =
      let (texts, are, all) = texts-of files (name ∷ []) programs h in
      let (codes, text, comes) = plays-programs files g from trips
      (play_of_once name) programs [] answer texts [] are all
      tt tt answers in
      run-is answer codes
      (subst (λ (held : List Notecard). answer
      ≡ run_answer Homes codes programs file trips (start (rules_of programs) file held)) (sym none_held)
      (subst (λ (w : WorldFile). answer ≡ run_answer Homes codes programs w trips (start (rules_of programs) w []))
      (sym is) comes.1))
  answer-run g from (Replay name) ok answer answers =
      let (bytes, is, good) = ok.world in
      let (texts, are, all) = texts-of files (names_in file) programs ok.scripts in
      let (notes, noted, read) = notes-of files (cards_in file) ok.read ok.notes in
      let (codes, text, comes) = plays-programs files g from trips
      (play_of Whole file) programs ok.read answer texts notes
      are all noted read (replays-plays files g from trips Whole name bytes file answer is good answers) in
      run-is answer codes
      (subst (λ (held : List Notecard). answer
      ≡ run_answer Homes codes programs file trips (start (rules_of programs) file held)) (sym ok.cards_are) comes.1)
  answer-run g from (Check name) h answer answers = absurd h
  answer-run g from (Lossy name) h answer answers = absurd h
  answer-run g from (Freeze name) h answer answers = absurd h
  answer-run g from (Thaw frozen name) h answer answers = absurd h
  answer-run g from (View frozen name) h answer answers = absurd h
  answer-run g from (Make number) h answer answers = absurd h
  answer-run g from (State at name) h answer answers = absurd h

  module _ (output : List ℕ) where
    abbrev IsThis : Grade → Answer → Type 0
    IsThis grade = Answers grade (Some files) begun trips command

    part : WrotePart (IsThis Due) trips (Some []) (Some output) → IsFirst file programs cards output
    part (answer, is, some) =
        let run = answer-run Due begun command runs answer is in
        let grew = begun-partly answer.pieces trips (Some []) (Some output) some in
        let same = some-one output grew.added grew.grew in (
          trips,
          copied,
          begins-is output (lines_in answer.pieces) lines
              (subst (λ (z : List ℕ). Begins z (lines_in answer.pieces)) (sym same) grew.begins) run.wrote,
        )

    -- all was sent, so every step is kept
    whole : (status : Status) → Wrote (IsThis Written) status trips (Some []) (Some output)
        → (number_of status ≡ number_of Ok) × (output ≡ lines_of (whole_journal programs file cards))
    whole status (answer, is, e, wrote) =
        let run = answer-run Written begun command runs answer is in
        let kept = all-kept run.codes (rules_of programs) file.steps trips begun copied (wrote.sent ∙ run.sent) in (
          ap number_of (sym e ∙ run.ended),
          some-one output (lines_in answer.pieces) wrote.written ∙ run.wrote
              ∙ ap (λ (steps : List Step). lines_of (entries_of steps)) kept,
        )

    written : (status : Status) → KeepsTo IsThis status trips (Some []) (Some output) → (status ≡ Usage → ⊥)
        → (status ≡ ReadFault → ⊥) → WritesJournal file programs cards (number_of status) output
    written Ok k u r = inl (whole Ok k)
    written BadWorld k u r = inl (whole BadWorld k)
    written BadScript k u r = inl (whole BadScript k)
    written BadImage k u r = inl (whole BadImage k)
    written BadNote k u r = inl (whole BadNote k)
    written WriteFault k u r = inr (inl refl, part k)
    written NoMemory (inl (e, none)) u r = inr (inr refl, (trips, copied, nothing (some-one output [] e)))
      where
        nothing : output ≡ [] → Begins output lines
        nothing e = subst (λ (z : List ℕ). Begins z lines) (sym e) (begins-none lines)
    written NoMemory (inr k) u r = inr (inr refl, part k)
    written Usage k u r = absurd (u refl)
    written ReadFault k u r = absurd (r refl)

-- nothing is thawed, so any world fits
fits-any : (files : Files) (command : Command) (file : WorldFile) (programs : List Program) (cards : List Notecard)
    (from : World) → Runs files command file programs cards → IsFromOf (Some files) command from
fits-any files (Once name) file programs cards from runs = tt
fits-any files (Replay name) file programs cards from runs =
    λ bytes other is good found had accepted codes all has read cards_are. tt
fits-any files (Check name) file programs cards from runs = absurd runs
fits-any files (Lossy name) file programs cards from runs = absurd runs
fits-any files (Freeze name) file programs cards from runs = absurd runs
fits-any files (Thaw frozen name) file programs cards from runs = absurd runs
fits-any files (View frozen name) file programs cards from runs = absurd runs
fits-any files (Make number) file programs cards from runs = absurd runs
fits-any files (State at name) file programs cards from runs = absurd runs

pub headline-of : (files : Files) (command : Command) (file : WorldFile) (programs : List Program)
    (cards : List Notecard) (room : ℕ) (status : Status) (output : List ℕ)
    → Ended files (Some command) room status output → Runs files command file programs cards
    → WritesJournal file programs cards (number_of status) output
headline-of files command file programs cards room status output ended runs =
    let (trips, went, silent, keeps) = ended.ends.kept in
    let from = start (rules_of programs) file cards in
    written files command file programs cards trips runs went.given output status
    (kept-from (Some files) trips (Some command) status (Some []) (Some output)
    (keeps (copies-fair (Some command) None None trips went)) from
    (fits-any files command file programs cards from runs))
    (λ e. let both : Some command ≡ None = ended.ends.usage.0 e in absurd (cc))
    (λ e. none-missing files command file programs cards runs
    (missing files (Some command) ended.missed (ended.ends.read_fault e)))

-- a status has a number below 9
pub number-below : (status : Status) → number_of status < 9
number-below Ok = lit< tt
number-below Usage = lit< tt
number-below BadWorld = lit< tt
number-below BadScript = lit< tt
number-below ReadFault = lit< tt
number-below WriteFault = lit< tt
number-below BadImage = lit< tt
number-below NoMemory = lit< tt
number-below BadNote = lit< tt
