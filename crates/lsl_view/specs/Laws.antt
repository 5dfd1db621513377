-- What is shown of a saved world is what its texts have there.
use Rattle.std.specs.Prelude.{◌≡◌, List, map}
use Rattle.lsl_tree.specs.Program.{Program}
use Rattle.lsl_code.specs.declared.woven_units.Woven.{Woven as Code}
use Rattle.lsl_gen.specs.Programs.{generated_functions}
use Rattle.lsl_weave.specs.Weaving.{woven_function}
use Rattle.lsl_lines.specs.declared.file.WorldFile.{WorldFile}
use Rattle.lsl_notes.specs.declared.cards.Notecard.{Notecard}
use Rattle.lsl_region.specs.Worlds.{World}
use Rattle.lsl_world.specs.Codes.{AreRunBy}
use Rattle.lsl_world.specs.Frozen.{AgreesWith, parts_of_world}
use Rattle.lsl_view.specs.Names.{AreNamedBy, IsNamedBy, script_names}
use Rattle.lsl_view.specs.Parts.{view_of_parts}
use Rattle.lsl_view.specs.Source.{view_of_world}

-- the woven code of a program keeps its names
abbrev pub CompiledCodeIsNamed : Type 0
CompiledCodeIsNamed =
    (p : Program) (code : Code) → code.functions ≡ map woven_function (generated_functions p) → IsNamedBy p code

-- of a world that agrees with a file, if its units run the file's programs and keep their names: the lines of its
-- parts, with the file's names of scripts, are the lines of the world as its texts mean it
abbrev pub ViewsAreOfTheSource : Type 0
ViewsAreOfTheSource =
    (programs : List Program) (units : List Code) (file : WorldFile) (cards : List Notecard) (w : World)
    → AreRunBy programs units → AreNamedBy programs units → AgreesWith programs file cards w
    → view_of_parts units (script_names file) (parts_of_world units w) ≡ view_of_world programs w
