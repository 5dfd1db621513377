-- Objects that are handed over by notes: which worlds can, and what the parcels of offers are images of.
use Rattle.std.specs.Prelude.{◌≡◌, ℕ, ◌-◌, List, length, Some, None}
use Rattle.lsl_code.specs.declared.woven_units.Woven.{Woven as Code}
use Rattle.lsl_handoff.specs.declared.card.Card.{Card}
use Rattle.lsl_handoff.specs.declared.note.Note.{Note}
use Rattle.lsl_handoff.specs.Handovers.{HasCounts}
use Rattle.lsl_image.specs.declared.parts.ObjectParts.{ObjectParts}
use Rattle.lsl_image.specs.Images.{ObjectImage}
use Rattle.lsl_image.specs.Valid.{shape_of}
use Rattle.lsl_lines.specs.declared.file.Step.{Step}
use Rattle.lsl_region.specs.Crossings.{CanArrive}
use Rattle.lsl_region.specs.Grids.{Contents}
use Rattle.lsl_region.specs.ObjectParts.{parts_of_object}
use Rattle.lsl_world.specs.Regions.{AreInNamed, LeadsToNamed, name_in}
use Rattle.lsl_world.specs.declared.world.World.{World}

-- the parcel of an offer is an image of its object, written in the region from which it comes, and means these parts
pub record IsImageFrom (codes : List Code) (grid : Contents) (regions : List (List ℕ)) (offer : Note)
    (parts : ObjectParts) : Type 0 where
  pub image : ObjectImage (name_in regions offer.from) (shape_of (parts_of_object grid (offer.object - 1))) codes parts
      offer.parcel
  pub fits : CanArrive codes grid (offer.object - 1) parts

-- an own offer: its parcel means its object as it is
abbrev pub IsOwnImage : List Code → Contents → List (List ℕ) → Note → Type 0
IsOwnImage codes grid regions offer =
    IsImageFrom codes grid regions offer (parts_of_object grid (offer.object - 1))

-- objects aren't handed over by notes yet, and their regions are named
pub record IsBegun (world : World) : Type 0 where
  pub plain : world.cards ≡ None
  pub named : AreInNamed world.regions world.grid.objects

-- where there are cards, each region has one of each object
abbrev pub AreCarded : World → Type 0
AreCarded world =
    (cards : List (List Card)) → world.cards ≡ Some cards
    → HasCounts (length world.grid.objects) (length world.regions) cards

-- where there are cards, a crossing leads to a region that is named
abbrev pub CanHand : World → Step → Type 0
CanHand world step =
    (cards : List (List Card)) → world.cards ≡ Some cards → LeadsToNamed world.regions step
