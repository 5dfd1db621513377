-- What is shown of a saved world is what its texts have there.
use Rattle.std.proofs.Common.{◌≡◌, ◌∙◌, refl, sym, ap, arith, ℕ, suc, List, [], ◌∷◌, ◌++◌, length, get_or, append_assoc, length-append, Some, slice_get}
use Rattle.std.specs.Prelude.{map}
use Rattle.lsl_tree.specs.Program.{Program}
use Rattle.lsl_code.specs.declared.woven_units.Woven.{Woven as Code}
use Rattle.lsl_post.specs.declared.parts.ScriptParts.{ScriptParts}
use Rattle.lsl_script.specs.Lawful.{Lawful}
use Rattle.lsl_script.specs.Parts.{parts_of}
use Rattle.lsl_region.specs.Worlds.{Member}
use Rattle.lsl_world.specs.Codes.{AreRunBy}
use Rattle.lsl_world.specs.Programs.{rules_of}
use Rattle.lsl_view.specs.Laws.{ViewsAreOfTheSource}
use Rattle.lsl_view.specs.Lines.{ShownScript, lines_of}
use Rattle.lsl_view.specs.Names.{AreNamedBy, script_names}
use Rattle.lsl_view.specs.Parts.{shown_behind, shown_script}
use Rattle.lsl_view.specs.Source.{shown_member}
use Rattle.lsl_view.proofs.Order.{scripts-are}
use Rattle.lsl_view.proofs.Places.{agreeing-among, agreeing-names, name_of}
use Rattle.lsl_view.proofs.Source.{script-shown}

next-is : (before : List (List ℕ)) (name : List ℕ) (more : List (List ℕ))
    → get_or (before ++ name ∷ more) (length before) [] ≡ name
next-is [] name more = refl
next-is (b ∷ before) name more = next-is before name more

module _ (programs : List Program) (codes : List Code) (all : AreRunBy programs codes)
    (named : AreNamedBy programs codes) where
  members-shown : (names before : List (List ℕ)) (ms : List Member) → names ≡ before ++ map name_of ms
      → ((n : ℕ) (m : Member) → slice_get ms n ≡ Some m → Lawful (rules_of programs) m.script)
      → shown_behind codes names (length before) (map (λ (m : Member). parts_of codes m.script) ms)
      ≡ map (shown_member programs) ms
  members-shown names before [] e each = refl
  members-shown names before (m ∷ ms) e each =
      let name : get_or names (length before) [] ≡ m.name =
      ap (λ (ns : List (List ℕ)). get_or ns (length before) []) e ∙ next-is before m.name (map name_of ms) in
      let count : length (before ++ m.name ∷ []) ≡ suc (length before) =
      length-append before (m.name ∷ []) ∙ omega arith in
      let further : names ≡ (before ++ m.name ∷ []) ++ map name_of ms =
      e ∙ sym (append_assoc before (m.name ∷ []) (map name_of ms)) in
      let rest = members-shown names (before ++ m.name ∷ []) ms further (λ n x at. each (suc n) x at) in
      ap (λ (z : List ℕ). shown_script codes z (parts_of codes m.script) ∷ shown_behind codes names
      (suc (length before)) (map (λ (x : Member). parts_of codes x.script) ms)) name
      ∙ ap (λ (z : ShownScript). z ∷ shown_behind codes names (suc (length before))
      (map (λ (x : Member). parts_of codes x.script) ms))
      (script-shown programs codes all m.name m.script named (each 0 m refl))
      ∙ ap (λ (k : ℕ). shown_member programs m ∷ shown_behind codes names k
      (map (λ (x : Member). parts_of codes x.script) ms)) (sym count)
      ∙ ap (λ (zs : List ShownScript). shown_member programs m ∷ zs) rest

pub views_are_of_the_source : ViewsAreOfTheSource
views_are_of_the_source programs units file cards w runs named agrees =
    let among = agreeing-among (rules_of programs) file cards w agrees.fixed in
    let names = agreeing-names (rules_of programs) file cards w agrees.fixed in
    ap (λ (ps : List ScriptParts). lines_of (shown_behind units (script_names file) 0 ps)) (scripts-are units w among)
    ∙ ap lines_of (members-shown programs units runs named (script_names file) [] w.members names agrees.lawful)
