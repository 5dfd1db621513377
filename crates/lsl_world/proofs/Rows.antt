-- The world of programs of a world in memory while a part of a step is done.
use Rattle.std.proofs.Common.{◌≡◌, ℕ, ◌+◌, ◌-◌, ◌<◌, ◌≤◌, Bool, false, List, ◌++◌, ap, sym, ◌∙◌, subst, arith}
use Rattle.std.specs.declared.result.Result.TheVariants.{Ok}
use Rattle.lsl_post.specs.declared.entries.Entry.{Entry}
use Rattle.lsl_post.specs.Journal.{Part}
use Rattle.lsl_post.specs.Told.{Told, as_value, lead}
use Rattle.lsl_post.proofs.Amid.{Again, Amid, amid-end, amid-err, amid-last, amid-ok}
use Rattle.lsl_tree.specs.Program.{Program}
use Rattle.lsl_script.specs.Rules.{Rules}
use Rattle.lsl_region.specs.Segments.{turn}
use Rattle.lsl_region.specs.Worlds.{World as SourceWorld}
use Rattle.lsl_lines.specs.declared.file.Step.TheVariants.{Go, Run}
use Rattle.lsl_world.specs.declared.world.World.{World}
use Rattle.lsl_world.specs.Parts.{Leaves}
use Rattle.lsl_world.specs.Programs.{rules_of}
use Rattle.lsl_world.specs.Stands.{IsOf}
use Rattle.lsl_world.specs.Steps.{next, round_or_last}
use Rattle.lsl_world.proofs.Parted.{rounds-enough, rounds_from, row, row-none, row-parts, row-whole}
use Rattle.lsl_world.proofs.Walking.{Going}

-- ---- segments of a script in a row

module _ (programs : List Program) (world : World) (script left : ℕ) (total : Told SourceWorld) (old now : List Entry)
    (amid : Amid (IsOf programs world) total old now (row (rules_of programs) (script - 1) left)) where
  abbrev r : Rules
  r = rules_of programs

  abbrev place : ℕ
  place = script - 1

  -- none is left to be done
  pub row-none-left : left ≡ 0 → IsOf programs world total.value × (now ≡ old ++ total.entries)
  row-none-left none =
      amid-end (IsOf programs world) total old now (row r place left) amid (IsOf programs world) (λ x. x)
      (λ x of. row-none r place left x none) (λ x of. of)

  pub row-leaves : Leaves (IsOf programs world) old now (next r (Go script left)) total
  row-leaves = record {
    world = amid.value;
    now = amid.rel;
    told = amid.done;
    added = amid.so_far;
    whole = amid.whole;
  }

  -- this many of them were to be done
  module _ (new : World) (few rest : ℕ) (e : left ≡ few + rest) (then_was : List Entry) where
    pub row-part : ((x : SourceWorld) → IsOf programs world x → Part now then_was (turn r few place x).entries)
        → Part old then_was total.entries
    row-part part =
        amid-err (IsOf programs world) total old now (row r place left) amid (row r place rest) (row r place few)
        then_was (λ x of. row-parts r place few rest left e x) part

    module _ (spent : ℕ) (does : (x : SourceWorld) → IsOf programs world x
        → (IsOf programs new (turn r few place x).value.0 × (spent ≡ (turn r few place x).value.1))
        × (then_was ≡ now ++ (turn r few place x).entries)) where
      pub row-on : Amid (IsOf programs new) total old then_was (row r place rest)
      row-on =
          amid-ok (IsOf programs world) total old now (row r place left) amid (IsOf programs new) (row r place rest)
          (row r place few) then_was (λ x of. row-parts r place few rest left e x)
          (λ x of. let d = does x of in (d.0.0, d.1))

      -- there were no more
      pub row-ends : spent < few → IsOf programs new total.value × (then_was ≡ old ++ total.entries)
      row-ends less =
          amid-last (IsOf programs world) total old now (row r place left) amid {T = Unit {0}} {E = Unit {0}} (Ok tt)
          (λ v t. IsOf programs new v) then_was
          (λ x of.
          let d = does x of in
          subst (λ (a : Told SourceWorld). IsOf programs new a.value × (then_was ≡ now ++ a.entries))
          (sym (row-whole r place few rest left spent e x d.0.1 less)) (d.0.0, d.1))

-- ---- rounds

-- what is left of rounds is a run of the segments that are left
pub rounds-leave : (programs : List Program) (world : World) (left most past : ℕ)
    (total : Told (SourceWorld × (ℕ × Bool))) (old now : List Entry) → left + past ≤ most
    → Again (Going programs world left) total old now (λ x. x.1.1) (round_or_last (rules_of programs)) past most
    → Leaves (IsOf programs world) old now (next (rules_of programs) (Run left)) (as_value (λ x. x.0) total)
rounds-leave programs world left most past total old now few again =
    let r = rules_of programs in
    let x = again.amid.value in
    let is = again.amid.rel in
    let span = again.span in
    record {
      world = x.0;
      now = is.is;
      told = again.amid.done;
      added = again.amid.so_far;
      whole =
          ap (λ (a : Told (SourceWorld × (ℕ × Bool))). as_value (λ y. y.0) a) again.amid.whole
          ∙ ap (λ (a : Told SourceWorld). lead again.amid.done a)
          (ap (λ (b : Bool). rounds_from r again.left (x.0, (x.1.0, b))) is.goes
          ∙ ap (λ (n : ℕ). rounds_from r again.left (x.0, (n, false))) (sym is.left_is)
          ∙ rounds-enough r again.left left left x.0 (omega (arith, few, span)) (omega arith));
    }
