-- The whole run of a world file: what its steps lead to, and then where each object is.
use Rattle.std.specs.Prelude.{ℕ, suc, List, [], ◌∷◌, ◌++◌}
use Rattle.lsl_code.specs.declared.woven_units.Woven.{Woven as Code}
use Rattle.lsl_lines.specs.declared.file.Step.{Step}
use Rattle.lsl_lines.specs.declared.file.WorldFile.{WorldFile}
use Rattle.lsl_notes.specs.declared.cards.Notecard.{Notecard}
use Rattle.lsl_ports.specs.Trips.{Trip}
use Rattle.lsl_post.specs.declared.entries.Entry.{Entry}
use Rattle.lsl_post.specs.declared.entries.Entry.TheVariants as entry
use Rattle.lsl_tree.specs.Program.{Program}
use Rattle.lsl_script.specs.Rules.{Rules}
use Rattle.lsl_region.specs.declared.objects.Linkset.{Linkset}
use Rattle.lsl_region.specs.Worlds.{World}
use Rattle.lsl_world.specs.Programs.{rules_of}
use Rattle.lsl_world.specs.Starts.{start}
use Rattle.lsl_world.specs.Kept.{kept_steps, regions_of}
use Rattle.lsl_world.specs.Steps.{reference}
use Rattle.lsl_world.specs.Travels.{images}

-- the regions of these objects, whose numbers are from this one on
abbrev pub homes_from : ℕ → List Linkset → List Entry
homes_from number [] = []
homes_from number (o ∷ objects) = entry.Home number o.region ∷ homes_from (suc number) objects

abbrev pub homes : World → List Entry
homes w = homes_from 1 w.objects

-- the steps of a file that are kept, by the trips that were made
abbrev pub kept_of : Rules → WorldFile → List Notecard → List Trip → List Step
kept_of r file cards trips = kept_steps (regions_of (start r file cards)) file.steps trips

-- the entries of a file's run with these notecards, where its scripts mean this: of the steps that are kept, and then
-- where each object is
abbrev pub run_entries : Rules → WorldFile → List Notecard → List Trip → List Entry
run_entries r file cards trips =
    let all = reference r (kept_of r file cards trips) (start r file cards) in
    all.entries ++ homes all.value

-- the journal of a file with scripts of these programs
abbrev pub journal_of : List Program → WorldFile → List Notecard → List Trip → List Entry
journal_of programs file cards trips = run_entries (rules_of programs) file cards trips

-- the images that its run sends, in order, with these units of its scripts
abbrev pub images_sent : List Code → List Program → WorldFile → List Notecard → List Trip → List (List ℕ)
images_sent codes programs file cards trips =
    let r = rules_of programs in
    images codes r file.steps trips (start r file cards)
