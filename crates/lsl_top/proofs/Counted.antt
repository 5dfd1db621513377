-- A file has as many names of scripts as the frozen world of it has scripts.
use Rattle.std.proofs.Common.{◌≡◌, ◌∙◌, refl, sym, ap, arith, ℕ, List, [], ◌∷◌, length, length-append}
use Rattle.std.specs.Prelude.{map}
use Rattle.std.specs.List.{flat_map}
use Rattle.std.proofs.lemmas.List.{length-map}
use Rattle.lsl_code.specs.declared.woven_units.Woven.{Woven as Code}
use Rattle.lsl_image.specs.declared.parts.Placed.{Placed}
use Rattle.lsl_image.specs.declared.parts.Shape.{Shape}
use Rattle.lsl_image.specs.declared.parts.WorldParts.{WorldParts}
use Rattle.lsl_image.specs.Valid.{placed_shape, unit_number}
use Rattle.lsl_lines.specs.declared.file.ObjectLine.{ObjectLine}
use Rattle.lsl_lines.specs.declared.file.PrimLine.{PrimLine}
use Rattle.lsl_lines.specs.declared.file.ScriptLine.{ScriptLine}
use Rattle.lsl_lines.specs.declared.file.WorldFile.{WorldFile}
use Rattle.lsl_view.specs.Names.{names_in_object, names_in_prim, script_names}
use Rattle.lsl_view.specs.Parts.{scripts_in, scripts_of}
use Rattle.lsl_world.specs.Frozen.{files_of_prim, shape_of_line, shapes_of_file}
use Rattle.lsl_world.proofs.ImageShapes.{image-shapes}
use Rattle.lsl_top.specs.Thaws.{IsThawOf}

abbrev units_of : Shape → List ℕ
units_of shape = shape.units

objects-counted : (objects : List Placed)
    → length (flat_map scripts_of objects) ≡ length (flat_map units_of (map placed_shape objects))
objects-counted [] = refl
objects-counted (o ∷ objects) =
    omega (
      arith,
      length-append (scripts_of o) (flat_map scripts_of objects),
      length-append (map unit_number (scripts_of o)) (flat_map units_of (map placed_shape objects)),
      length-map (scripts_of o) unit_number,
      objects-counted objects,
    )

prims-counted : (prims : List PrimLine)
    → length (flat_map names_in_prim prims) ≡ length (flat_map files_of_prim prims)
prims-counted [] = refl
prims-counted (p ∷ prims) =
    omega (
      arith,
      length-append (names_in_prim p) (flat_map names_in_prim prims),
      length-append (files_of_prim p) (flat_map files_of_prim prims),
      length-map p.scripts (λ (s : ScriptLine). s.name),
      length-map p.scripts (λ (s : ScriptLine). s.file),
      prims-counted prims,
    )

lines-counted : (lines : List ObjectLine)
    → length (flat_map names_in_object lines) ≡ length (flat_map units_of (map shape_of_line lines))
lines-counted [] = refl
lines-counted (line ∷ lines) =
    omega (
      arith,
      length-append (names_in_object line) (flat_map names_in_object lines),
      length-append (flat_map files_of_prim line.prims) (flat_map units_of (map shape_of_line lines)),
      prims-counted line.prims,
      lines-counted lines,
    )

pub names-counted : (codes : List Code) (file : WorldFile) (text : List ℕ) (parts : WorldParts)
    → IsThawOf codes file text parts → length (script_names file) ≡ length (scripts_in parts)
names-counted codes file text parts (bytes, is, stands) =
    lines-counted file.objects
    ∙ ap (λ (shapes : List Shape). length (flat_map units_of shapes))
    (sym (image-shapes (shapes_of_file file) codes parts bytes stands))
    ∙ sym (objects-counted parts.objects)
