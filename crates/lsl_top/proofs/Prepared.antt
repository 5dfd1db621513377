-- The result of a play that is run with its code and its notecards, or refused.
use Rattle.std.proofs.Common.{ℕ, List, [], ◌∷◌, inl, inr, sym, subst}
use Rattle.std.specs.List.{AllByRecursion}
use Rattle.lsl_ports.specs.Trips.{Trip}
use Rattle.lsl_tree.specs.Program.{Program}
use Rattle.lsl_view.specs.Globals.{IsScript}
use Rattle.lsl_top.specs.Scripts.{AreAccepted}
use Rattle.lsl_notes.specs.declared.cards.Notecard.{Notecard}
use Rattle.lsl_region.specs.Worlds.{World}
use Rattle.lsl_top.specs.Answers.{Answer, Comes, Grade, PlaysRead}
use Rattle.lsl_top.specs.Froms.{IsFromIn, IsFromRead}
use Rattle.lsl_top.specs.Plays.{Play, Read}
use Rattle.lsl_top.specs.Prepared.{IsCast, Refuses}
use Rattle.lsl_top.specs.declared.preparing.Cast.{Cast}

accepted-scripts : (texts : List (List ℕ)) (programs : List Program) → AreAccepted texts programs
    → AllByRecursion IsScript texts
accepted-scripts [] programs h = tt
accepted-scripts (t ∷ texts) [] h = absurd h
accepted-scripts (t ∷ texts) (p ∷ programs) h =
    let (script, is) = h.0 in (
      (script, record { tokens = is.tokens; lexed = is.lexed; derived = is.derived }),
      accepted-scripts texts programs h.1,
    )

module _ (play : Play) (read : Read) where
  module _ (cast : Cast) (is : IsCast play read cast) where
    pub cast-fits : (from : World) → IsFromRead play read from
        → IsFromIn play.mode cast.units is.programs play.world cast.cards read.frozen from
    cast-fits from fits =
        subst (λ (z : List Notecard). IsFromIn play.mode cast.units is.programs play.world z read.frozen from)
        (sym is.cast_cards) (fits is.programs cast.units is.accepted is.codes is.cards is.are_cards)

    pub plays-cast : (grade : Grade) (from : World) (trips : List Trip) (answer : Answer)
        → Comes grade from trips play.mode read.texts cast.units is.programs play.world cast.cards read.frozen answer
        → PlaysRead grade from trips play read answer
    plays-cast grade from trips answer h = inl (
      is.programs,
      cast.units,
      is.accepted,
      is.codes,
      inl (
        is.cards,
        is.are_cards,
        subst (λ (z : List Notecard).
            Comes grade from trips play.mode read.texts cast.units is.programs play.world z read.frozen answer)
            is.cast_cards h,
      ),
    )

    -- the texts are scripts
    pub cast-scripts : AllByRecursion IsScript read.texts
    cast-scripts = accepted-scripts read.texts is.programs is.accepted

  pub plays-refused : (grade : Grade) (from : World) (trips : List Trip) (answer : Answer) → Refuses play read answer
      → PlaysRead grade from trips play read answer
  plays-refused grade from trips answer (inl h) = inr h
  plays-refused grade from trips answer (inr ((programs, codes, accepted, has), h)) =
      inl (programs, codes, accepted, has, inr h)
