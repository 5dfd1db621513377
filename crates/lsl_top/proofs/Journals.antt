-- The pieces of a run are its journal and what is printed at its end, and send its images.
use Rattle.std.proofs.Common.{◌≡◌, ℕ, List, [], ◌∷◌, ◌++◌, refl, ap, sym, ◌∙◌, append-nil}
use Rattle.lsl_code.specs.declared.woven_units.Woven.{Woven as Code}
use Rattle.lsl_ports.specs.Trips.{Trip}
use Rattle.lsl_tree.specs.Program.{Program}
use Rattle.lsl_lines.specs.Frozen.{frozen_line}
use Rattle.lsl_lines.specs.Journal.{lines_of}
use Rattle.lsl_lines.specs.declared.file.Step.{Step}
use Rattle.lsl_lines.specs.declared.file.WorldFile.{WorldFile}
use Rattle.lsl_post.specs.Told.{Told}
use Rattle.lsl_script.specs.Rules.{Rules}
use Rattle.lsl_region.specs.Worlds.{World}
use Rattle.lsl_world.specs.Frozen.{frozen_image, parts_of_world}
use Rattle.lsl_view.specs.StateParts.{state_of_parts}
use Rattle.lsl_world.specs.Programs.{rules_of}
use Rattle.lsl_world.specs.Reports.{homes}
use Rattle.lsl_world.specs.Steps.{reference}
use Rattle.lsl_world.specs.Travels.{go_on, images, images_of, left, travel}
use Rattle.lsl_world.proofs.Taking.{all-taken}
use Rattle.lsl_top.specs.Headline.{kept_from, output_from, report_from}
use Rattle.lsl_top.specs.Laws.{RunsAreJournals}
use Rattle.lsl_top.specs.Pieces.{last_piece, lines_in, pieces_from, sent_in, step_pieces}
use Rattle.lsl_top.specs.Plays.{Last, Homes, Frozen, Inspected}
use Rattle.lsl_top.proofs.Performing.{last-silent}
use Rattle.lsl_top.proofs.Pieces.{lines_in-append, sent_in-append}
use Rattle.lsl_top.proofs.Written.{lines-append}

step-lines : (codes : List Code) (r : Rules) (steps : List Step) (trips : List Trip) (w : World)
    → lines_in (step_pieces codes r steps trips w) ≡ lines_of (travel r steps trips w).entries
unfolding step_pieces travel
step-lines codes r [] trips w = refl
step-lines codes r (step ∷ steps) trips w =
    let a = go_on r step trips w in
    ap (λ (z : List ℕ). lines_of a.entries ++ z) (step-lines codes r steps (left step w trips) a.value)
    ∙ sym (lines-append a.entries (travel r steps (left step w trips) a.value).entries)

step-images : (codes : List Code) (r : Rules) (steps : List Step) (trips : List Trip) (w : World)
    → sent_in (step_pieces codes r steps trips w) ≡ images codes r steps trips w
unfolding step_pieces images
step-images codes r [] trips w = refl
step-images codes r (step ∷ steps) trips w =
    ap (λ (z : List (List ℕ)). images_of codes step w ++ z)
    (step-images codes r steps (left step w trips) (go_on r step trips w).value)

pub pieces-lines : (last : Last) (codes : List Code) (r : Rules) (steps : List Step) (trips : List Trip) (w : World)
    → lines_in (pieces_from last codes r steps trips w)
    ≡ lines_of (travel r steps trips w).entries ++ (last_piece last codes (travel r steps trips w).value).lines
pieces-lines last codes r steps trips w =
    let told = travel r steps trips w in
    let end = last_piece last codes told.value in
    lines_in-append (step_pieces codes r steps trips w) (end ∷ [])
    ∙ ap (λ (z : List ℕ). z ++ lines_in (end ∷ [])) (step-lines codes r steps trips w)
    ∙ ap (λ (z : List ℕ). lines_of told.entries ++ z) (append-nil end.lines)

pub pieces-images : (last : Last) (codes : List Code) (r : Rules) (steps : List Step) (trips : List Trip) (w : World)
    → sent_in (pieces_from last codes r steps trips w) ≡ images codes r steps trips w
pieces-images last codes r steps trips w =
    let end = last_piece last codes (travel r steps trips w).value in
    sent_in-append (step_pieces codes r steps trips w) (end ∷ [])
    ∙ ap (λ (z : List (List ℕ)). sent_in (step_pieces codes r steps trips w) ++ (z ++ []))
    (sym (last-silent last codes (travel r steps trips w).value))
    ∙ append-nil (sent_in (step_pieces codes r steps trips w)) ∙ step-images codes r steps trips w

-- the run of the kept steps is that of all steps by their trips
kept-travels : (programs : List Program) (file : WorldFile) (trips : List Trip) (w : World)
    → travel (rules_of programs) file.steps trips w ≡ reference (rules_of programs) (kept_from file trips w) w
kept-travels programs file trips w = all-taken (rules_of programs) file.steps trips w

report-lines : (programs : List Program) (file : WorldFile) (trips : List Trip) (w : World)
    → lines_of (travel (rules_of programs) file.steps trips w).entries
    ++ lines_of (homes (travel (rules_of programs) file.steps trips w).value) ≡ report_from programs file trips w
report-lines programs file trips w =
    let told = travel (rules_of programs) file.steps trips w in
    sym (lines-append told.entries (homes told.value))
    ∙ ap (λ (a : Told World). lines_of (a.entries ++ homes a.value)) (kept-travels programs file trips w)

pub journal-pieces : (last : Last) (codes : List Code) (programs : List Program) (file : WorldFile) (trips : List Trip)
    (w : World) → lines_in (pieces_from last codes (rules_of programs) file.steps trips w)
    ≡ output_from last codes programs file trips w
journal-pieces Homes codes programs file trips w =
    pieces-lines Homes codes (rules_of programs) file.steps trips w ∙ report-lines programs file trips w
journal-pieces Frozen codes programs file trips w =
    pieces-lines Frozen codes (rules_of programs) file.steps trips w
    ∙ ap (λ (a : Told World). lines_of a.entries ++ frozen_line (frozen_image codes a.value))
    (kept-travels programs file trips w)
journal-pieces (Inspected names) codes programs file trips w =
    pieces-lines (Inspected names) codes (rules_of programs) file.steps trips w
    ∙ ap (λ (a : Told World). lines_of a.entries ++ state_of_parts codes names (parts_of_world codes a.value))
    (kept-travels programs file trips w)

pub runs-journals : RunsAreJournals
runs-journals last codes programs file trips w = record {
  lines = journal-pieces last codes programs file trips w;
  sent = pieces-images last codes (rules_of programs) file.steps trips w;
}
