-- A run from a file's start in which objects are handed over by notes is the journal of the kept steps.
use Rattle.std.proofs.Common.{◌≡◌, ◌∙◌, ◌<◌, ◌^◌, ℕ, List, [], ◌++◌, length, refl, ap, sym, subst, arith}
use Rattle.std.proofs.lemmas.List.{length-map}
use Rattle.lsl_code.specs.declared.woven_units.Woven.{Woven as Code}
use Rattle.lsl_ports.specs.Growth.{Begins}
use Rattle.lsl_ports.specs.Trips.{Trip, sent_of}
use Rattle.lsl_tree.specs.Program.{Program}
use Rattle.lsl_post.specs.Told.{Told, as_value}
use Rattle.lsl_lines.specs.Journal.{lines_of}
use Rattle.lsl_lines.specs.World.{IsWorld}
use Rattle.lsl_lines.specs.declared.file.ObjectLine.{ObjectLine}
use Rattle.lsl_lines.specs.declared.file.WorldFile.{WorldFile}
use Rattle.lsl_notes.specs.declared.cards.Notecard.{Notecard}
use Rattle.lsl_script.specs.Rules.{Rules}
use Rattle.lsl_region.specs.Worlds.{World}
use Rattle.lsl_world.specs.Kept.{regions_of}
use Rattle.lsl_world.specs.Lossy.{Stage, WereCarried, cards_at_start, kept_lossy, lossy_stage, travel_from}
use Rattle.lsl_world.specs.Programs.{rules_of}
use Rattle.lsl_world.specs.Regions.{AreInNamed, regions_of_file}
use Rattle.lsl_world.specs.Reports.{homes}
use Rattle.lsl_world.specs.Sizes.{size_of_file}
use Rattle.lsl_world.specs.Starts.{object_of_line, start}
use Rattle.lsl_world.specs.Steps.{reference}
use Rattle.lsl_world.proofs.KeptLossy.{lossy-keeps}
use Rattle.lsl_world.proofs.Lossy.{most-start, order-start}
use Rattle.lsl_world.proofs.Named.{few-regions, file-objects-named, file-steps-named}
use Rattle.lsl_world.proofs.Ranges.{good-in_range}
use Rattle.lsl_top.specs.Answers.{lossy_answer}
use Rattle.lsl_top.specs.Headline.{lossy_report}
use Rattle.lsl_top.specs.Pieces.{lines_in, sent_in}
use Rattle.lsl_top.proofs.Staged.{lines-at, sent-at}
use Rattle.lsl_top.proofs.Written.{lines-append}

-- where first ones of its notes were handed over, and nothing else came back, a run from a file's start by notes is the
-- journal of the kept steps
module _ (codes : List Code) (programs : List Program) (file : WorldFile) (trips : List Trip) (cards : List Notecard)
    (text : List ℕ) (good : IsWorld text file) where
  abbrev r : Rules
  r = rules_of programs

  abbrev regions : List (List ℕ)
  regions = regions_of_file file

  abbrev begin : World
  begin = start r file cards

  abbrev stage : Stage
  stage = lossy_stage regions begin

  named : AreInNamed regions begin.objects
  named = file-objects-named file

  few : length regions < 2 ^ 32
  few =
      let range = good-in_range text file good in
      omega (arith, few-regions file, range.few_objects, range.few_steps)

  few-objects : length begin.objects < 2 ^ 32
  few-objects =
      let range = good-in_range text file good in
      omega (arith, length-map file.objects object_of_line, range.few_objects)

  as-many : length (size_of_file file).prims ≡ length begin.objects
  as-many = length-map file.objects (λ (o : ObjectLine). length o.prims) ∙ sym (length-map file.objects object_of_line)

  pub lossy-journal : WereCarried [] trips
      → Begins (sent_of trips) (sent_in (lossy_answer codes programs file trips begin).pieces)
      → lines_in (lossy_answer codes programs file trips begin).pieces ≡ lossy_report programs file trips begin
  lossy-journal fair sends =
      let range = good-in_range text file good in
      let told = travel_from codes r regions file.steps trips stage in
      let kept : as_value (λ s. s.world) told ≡ reference r (kept_lossy (regions_of begin) [] file.steps trips) begin =
      lossy-keeps codes r regions file.steps stage (cards_at_start regions begin.objects) 0
      (size_of_file file) trips refl
      (order-start regions begin.objects named) (most-start regions begin.objects named)
      (omega (arith, range.few_steps)) few few-objects (file-steps-named file) as-many range.steps_fit
      (λ note has. absurd (omega (arith, has.1))) fair
      (subst (λ (z : List (List ℕ)). Begins (sent_of trips) z)
      (sent-at codes r regions file.steps trips stage) sends) in
      lines-at codes r regions file.steps trips stage ∙ sym (lines-append told.entries (homes told.value.world))
      ∙ ap (λ (a : Told World). lines_of (a.entries ++ homes a.value)) kept
