-- The numbers of a draft's points.
use Rattle.std.proofs.Common.{◌≡◌, ℕ, zero, suc, List, [], ◌∷◌, length, Option, Some, None, option_map, refl, ap, slice_get}
use Rattle.lsl_value.specs.declared.tagged.Kind.{Kind}
use Rattle.lsl_code.specs.declared.instructions.Instr.{Instr}
use Rattle.lsl_code.specs.declared.instructions.Instr.TheVariants.{Tick, Call}
use Rattle.lsl_code.specs.Bodies.{Body}
use Rattle.lsl_code.specs.Drafts.{pointed, next_point, numbered}
use Rattle.lsl_code.specs.Effects.{behind}
use Rattle.lsl_code.specs.Fits.{goes_on, jumps_on, begins_with_tick, is_plain}
use Rattle.lsl_code.specs.Forward.{is_back}
use Rattle.lsl_code.specs.Kinds.{Scope}

-- the first point that is free at place k
abbrev pub free_point : List Instr → ℕ → ℕ → ℕ
free_point [] n k = n
free_point (i ∷ is) n zero = n
free_point (i ∷ is) n (suc k) = free_point is (next_point i n) k

pub numbered_at : (d : List Instr) (n k : ℕ)
    → slice_get (numbered d n) k ≡ option_map (λ i. pointed i (free_point d n k)) (slice_get d k)
numbered_at [] n k = refl
numbered_at (i ∷ d) n zero = refl
numbered_at (i ∷ d) n (suc k) = numbered_at d (next_point i n) k

pub numbered_length : (d : List Instr) (n : ℕ) → length (numbered d n) ≡ length d
numbered_length [] n = refl
numbered_length (i ∷ d) n = ap suc (numbered_length d (next_point i n))

-- nothing looks at the point
pub behind_pointed : (s : Scope) (i : Instr) (p : ℕ) (ks : List Kind) → behind s (pointed i p) ks ≡ behind s i ks
behind_pointed s (Tick line) p ks = refl
behind_pointed s (Call f line) p ks = refl
behind_pointed s i p ks = refl

pub goes_on_pointed : (w : Body) (k : ℕ) (i : Instr) (p : ℕ) (ks : List Kind)
    → goes_on w k (pointed i p) ks ≡ goes_on w k i ks
goes_on_pointed w k (Tick line) p ks = refl
goes_on_pointed w k (Call f line) p ks = refl
goes_on_pointed w k i p ks = refl

pub jumps_pointed : (code : List Instr) (k : ℕ) (i : Instr) (p : ℕ)
    → jumps_on code k (pointed i p) ≡ jumps_on code k i
jumps_pointed code k (Tick line) p = refl
jumps_pointed code k (Call f line) p = refl
jumps_pointed code k i p = refl

pub back_pointed : (o : Option Instr) (place : ℕ) (p : ℕ)
    → is_back place (option_map (λ i. pointed i p) o) ≡ is_back place o
back_pointed None place p = refl
back_pointed (Some (Tick line)) place p = refl
back_pointed (Some (Call f line)) place p = refl
back_pointed (Some i) place p = refl

pub begins_pointed : (d : List Instr) (n : ℕ) → begins_with_tick (numbered d n) ≡ begins_with_tick d
begins_pointed [] n = refl
begins_pointed (Tick line ∷ d) n = refl
begins_pointed (Call f line ∷ d) n = refl
begins_pointed (i ∷ d) n = refl

pub plain_pointed : (i : Instr) (p : ℕ) → is_plain (pointed i p) ≡ is_plain i
plain_pointed (Tick line) p = refl
plain_pointed (Call f line) p = refl
plain_pointed i p = refl
