-- A machine that is saved at a tick and restored continues as it would have.
use Rattle.std.proofs.Common.{◌≡◌, ℕ, ◌+◌, List, [], ◌∷◌, Some, refl, sym, ap, ◌∙◌}
use Rattle.lsl_code.specs.declared.frames.Frame.{Frame}
use Rattle.lsl_code.specs.Bodies.{Body}
use Rattle.lsl_code.specs.Machine.{MachineCall, Machine}
use Rattle.lsl_code.specs.Runs.{CutAt, run}
use Rattle.lsl_code.specs.Forward.{Forward}
use Rattle.lsl_code.specs.Laws.{after_ticks}
use Rattle.lsl_weave.specs.Layout.{all_woven}
use Rattle.lsl_code.specs.Standing.{Stands, Wait, HasFrames}
use Rattle.lsl_weave.specs.Lifting.{lift_machine, lift_halt, AreBehindCalls, OuterAreBehind}
use Rattle.lsl_code.proofs.Resuming.{ticks_law}
use Rattle.lsl_weave.proofs.Running.{runs_alike}

behind_waits : (bs : List Body) (h g : ℕ) (cs : List MachineCall) (frs : List Frame) → Wait bs h cs frs g
    → AreBehindCalls bs cs
behind_waits bs h g [] frs w = tt
behind_waits bs h g (c ∷ cs) [] w = absurd w
behind_waits bs h g (c ∷ cs) (fr ∷ frs) w =
    let st : Stands bs c w.0 (Some g) fr = w.2 in
    ((st.body, w.0, g, fr.point, st.found, w.1, st.here), behind_waits bs h c.function cs frs w.3)

pub frames_behind : (bs : List Body) (h : ℕ) (calls : List MachineCall) (frs : List Frame)
    → HasFrames bs h calls frs → OuterAreBehind bs calls
frames_behind bs h [] frs w = absurd w
frames_behind bs h (c ∷ cs) [] w = absurd w
frames_behind bs h (c ∷ cs) (fr ∷ frs) w = behind_waits bs h c.function cs frs w.1

-- the woven run from where the plain one is cut is the plain one with more ticks
pub goes_on : (bs : List Body) → Forward bs → (h t k : ℕ) (m at : Machine) (frs : List Frame)
    → OuterAreBehind bs m.calls → run bs t m ≡ CutAt at → HasFrames bs h at.calls frs
    → run (all_woven bs) k (lift_machine bs at) ≡ lift_halt bs (run bs (t + k) m)
goes_on bs forward h t k m at frs outer cut w =
    runs_alike bs forward k at (frames_behind bs h at.calls frs w)
    ∙ ap (lift_halt bs) (sym (ticks_law bs forward t (t + k) k m refl ∙ ap (after_ticks bs k) cut))
