-- The result of the arrival of an object with the parts of an image.
use Rattle.std.proofs.Common.{◌≡◌, ◌∙◌, sym, ap, subst, ℕ, List, ◌++◌, length}
use Rattle.std.specs.Prelude.{None}
use Rattle.std.specs.List.{filter_map}
use Rattle.std.proofs.lemmas.List.{length-map}
use Rattle.lsl_code.specs.declared.woven_units.Woven.{Woven as Code}
use Rattle.lsl_post.specs.declared.entries.Entry.{Entry}
use Rattle.lsl_post.specs.Journal.{Part}
use Rattle.lsl_post.specs.Told.{Told}
use Rattle.lsl_post.proofs.Amid.{part-none}
use Rattle.lsl_image.specs.declared.parts.ObjectParts.{ObjectParts}
use Rattle.lsl_image.specs.declared.parts.Shape.{Shape}
use Rattle.lsl_image.specs.Valid.{unit_number}
use Rattle.lsl_script.specs.Codes.{Meant}
use Rattle.lsl_region.specs.Crossings.{CanArrive, arrived}
use Rattle.lsl_region.specs.Grids.{Contents, Stands}
use Rattle.lsl_region.specs.Journeys.{arrive}
use Rattle.lsl_region.specs.ObjectParts.{parts_in_seat, parts_of_object}
use Rattle.lsl_region.specs.Worlds.{World}
use Rattle.lsl_region.proofs.Journeys.{arrives}

-- as many scripts come as the object has
pub comers-count : (codes : List Code) (grid : Contents) (place : ℕ) (parts : ObjectParts)
    → CanArrive codes grid place parts
    → length parts.scripts ≡ length (filter_map (parts_in_seat place) grid.seats)
comers-count codes grid place parts can =
    sym (length-map parts.scripts unit_number)
    ∙ ap (λ (s : Shape). length s.units) can.shape
    ∙ length-map (filter_map (parts_in_seat place) grid.seats) unit_number

module _ (codes : List Code) (m : Meant codes) (clock place : ℕ) (region : List ℕ) (old new : Contents) (w : World)
    (before after : List Entry) where
  -- with its own parts the object arrives as in the world
  pub comes-own : (parts : ObjectParts) → Stands codes None clock old w → parts ≡ parts_of_object old place
      → (new ≡ (arrived codes old place region parts).value)
      × (after ≡ before ++ (arrived codes old place region parts).entries)
      → Stands codes None clock new (arrive m.rules place region w).value
      × (after ≡ before ++ (arrive m.rules place region w).entries)
  comes-own parts st own done =
      let a = arrives codes m clock place region old w st in
      let told = ap (λ (p : ObjectParts). arrived codes old place region p) own in (
        subst (λ (g : Contents). Stands codes None clock g (arrive m.rules place region w).value)
            (sym (done.0 ∙ ap (λ (t : Told Contents). t.value) told)) a.stands,
        done.1 ∙ ap (λ (es : List Entry). before ++ es) (ap (λ (t : Told Contents). t.entries) told ∙ a.entries),
      )

  -- nothing came of it
  pub comes-not : after ≡ before → Part before after (arrive m.rules place region w).entries
  comes-not silent =
      subst (λ (es : List Entry). Part before es (arrive m.rules place region w).entries) (sym silent)
      (part-none before (arrive m.rules place region w).entries)
