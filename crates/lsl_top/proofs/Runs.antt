-- Runs of worlds with built scripts.
use Rattle.std.proofs.Common.{◌≡◌, ◌⊎◌, ℕ, List, Option, Result, Ok, Err, inl, inr, sym, ap, ◌∙◌, subst}
use Rattle.std.specs.Prelude.{IfErr, IfOk, IsErrOf}
use Rattle.lsl_text.specs.declared.Refusal.{Refusal}
use Rattle.lsl_text.specs.declared.Refusal.TheVariants.{Fault, NoMemory as WantsMemory}
use Rattle.lsl_code.specs.declared.woven_units.Woven.{Woven as Code}
use Rattle.lsl_image.specs.declared.faults.ImageFault.{ImageFault}
use Rattle.lsl_image.specs.declared.faults.ImageFault.TheVariants.{NotFrozen}
use Rattle.lsl_image.specs.declared.parts.WorldParts.{WorldParts}
use Rattle.lsl_image.specs.Images.{WorldFirst}
use Rattle.lsl_image.specs.Reading.{IsRefusedBy}
use Rattle.lsl_lines.specs.Frozen.{HasFrozenLine, IsFrozen}
use Rattle.lsl_lines.specs.declared.file.WorldFile.{WorldFile}
use Rattle.lsl_lines.specs.declared.file.Step.{Step}
use Rattle.lsl_notes.specs.declared.cards.Notecard.{Notecard}
use Rattle.lsl_tree.specs.Program.{Program}
use Rattle.lsl_region.specs.Worlds.{World}
use Rattle.lsl_world.specs.declared.world.World.{World as Memory}
use Rattle.lsl_world.specs.Frozen.{AgreesWith, IsImageIn, parts_in, parts_of_world, shapes_of_file}
use Rattle.lsl_world.specs.Lossy.{Stage, travel_from}
use Rattle.lsl_world.specs.Programs.{rules_of}
use Rattle.lsl_world.specs.Stands.{IsOf}
use Rattle.lsl_top.specs.Goes.{IsLast, Performs}
use Rattle.lsl_top.specs.Pieces.{pieces_at}
use Rattle.lsl_top.specs.Plays.{Last}
use Rattle.lsl_top.specs.Ports.{Log, Wire}
use Rattle.lsl_top.specs.Thaws.{IsFrom, IsThawFault, IsThawOf}
use Rattle.lsl_top.specs.declared.writing.Trouble.{Trouble}
use Rattle.lsl_top.proofs.Faults.{err-one}

-- a run of these units and steps, among these regions
pub performs-by : {T : Type 0} (gives : List ℕ → Option (List ℕ) → Type 0) (IsThen : List Program → Stage → Type 0)
    (last : Last) (codes units : List Code) (regions named : List (List ℕ)) (steps others : List Step) (a b : Log)
    (p q : Wire) (result : Result T Trouble) → codes ≡ units → regions ≡ named → steps ≡ others
    → Performs gives IsThen
    (λ programs stage trips.
    IsLast last codes programs (travel_from codes (rules_of programs) regions steps trips stage).value.world)
    (λ programs stage trips. pieces_at last codes (rules_of programs) regions steps trips stage) a b p q result
    → Performs gives IsThen
    (λ programs stage trips.
    IsLast last units programs (travel_from units (rules_of programs) named others trips stage).value.world)
    (λ programs stage trips. pieces_at last units (rules_of programs) named others trips stage) a b p q result
performs-by gives IsThen last codes units regions named steps others a b p q result e f g h =
    subst (λ (z : List Step). Performs gives IsThen
    (λ programs stage trips. IsLast last units programs
    (travel_from units (rules_of programs) named z trips stage).value.world)
    (λ programs stage trips. pieces_at last units (rules_of programs) named z trips stage) a b p q result) g
    (subst (λ (z : List (List ℕ)). Performs gives IsThen
    (λ programs stage trips. IsLast last units programs
    (travel_from units (rules_of programs) z steps trips stage).value.world)
    (λ programs stage trips. pieces_at last units (rules_of programs) z steps trips stage) a b p q result) f
    (subst (λ (z : List Code). Performs gives IsThen
    (λ programs stage trips. IsLast last z programs
    (travel_from z (rules_of programs) regions steps trips stage).value.world)
    (λ programs stage trips. pieces_at last z (rules_of programs) regions steps trips stage) a b p q result) e h))

-- the refusal of a text without a frozen world, and of one with a world that isn't that of the file
pub untaken : {T : Type 0} (codes : List Code) (file : WorldFile) (text : List ℕ) (refusal : Refusal ImageFault)
    → (refusal ≡ WantsMemory) ⊎ ((refusal ≡ Fault NotFrozen) × (HasFrozenLine text → ⊥)) → (fault : ImageFault)
    → IsErrOf {T = T} (Err refusal) (Fault fault) → IsThawFault codes file text fault
untaken {T} codes file text refusal (inl e) fault is =
    let both : WantsMemory ≡ Fault fault = sym e ∙ err-one {T = T} refusal (Fault fault) is in absurd (cc)
untaken {T} codes file text refusal (inr (e, lacks)) fault is =
    inl (lacks, sym (ap value (sym e ∙ err-one {T = T} refusal (Fault fault) is)))
  where
    value : Refusal ImageFault → ImageFault
    value (Fault f) = f
    value WantsMemory = fault

pub unthawed : {T : Type 0} (codes : List Code) (file : WorldFile) (text image : List ℕ)
    (result : Result T (Refusal ImageFault))
    → IsFrozen text image → IfErr result (IsRefusedBy (WorldFirst (shapes_of_file file) codes image))
    → (fault : ImageFault) → IsErrOf result (Fault fault) → IsThawFault codes file text fault
unthawed codes file text image (Ok t) of first fault is = absurd (cc)
unthawed {T} codes file text image (Err refusal) of first fault is =
    inr (
      image,
      of,
      subst (λ (z : Refusal ImageFault). IsRefusedBy (WorldFirst (shapes_of_file file) codes image) z)
          (err-one {T = T} refusal (Fault fault) is) first,
    )

-- what was read of the text's bytes is what the text has
pub thaw-found : {E : Type 0} (codes : List Code) (file : WorldFile) (text image slice : List ℕ)
    (result : Result Memory E) → IsFrozen text image → slice ≡ image
    → IfOk result (λ m. IsImageIn codes file (parts_in m) slice)
    → IfOk result (λ m. IsThawOf codes file text (parts_in m))
thaw-found codes file text image slice (Ok m) of same is =
    (image, of, subst (λ (z : List ℕ). IsImageIn codes file (parts_in m) z) same is)
thaw-found codes file text image slice (Err e) of same is = tt

-- and it is the world that the text has, if there is one
pub thaw-of : {E : Type 0} (codes : List Code) (programs : List Program) (file : WorldFile) (cards : List Notecard)
    (text image slice : List ℕ) (w : World) (result : Result Memory E) → IsFrozen text image → slice ≡ image
    → IfOk result (λ m. IsImageIn codes file (parts_in m) slice) → IsFrom codes programs file cards text w
    → (AgreesWith programs file cards w → IsImageIn codes file (parts_of_world codes w) slice
    → IfOk result (λ m. IsOf programs m w)) → IfOk result (λ m. IsOf programs m w)
thaw-of codes programs file cards text image slice w (Ok m) of same is from then_is =
    let (agrees, parts) = from (parts_in m)
    (image, of, subst (λ (z : List ℕ). IsImageIn codes file (parts_in m) z) same is) in
    then_is agrees (subst (λ (p : WorldParts). IsImageIn codes file p slice) (sym parts) is)
thaw-of codes programs file cards text image slice w (Err e) of same is from then_is = tt
