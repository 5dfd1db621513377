use Rattle.std.proofs.Common.{◌∙◌}
use Rattle.std.proofs.lemmas.Result.{IfOk-from_err, MatchResult-from_err}
use Rattle.lsl_region.specs.Grids.{AreSeated}
use Rattle.lsl_region.proofs.Touches.{amid-part, first-err, first-ok, second-err, second-ok, third}
use Rattle.lsl_region.proofs.grid.Grid.touch_all.Goals as goal

pub returns-in_err-post_one-clause-does : goal.returns-in_err-post_one-clause-does
returns-in_err-post_one-clause-does c = λ m clock object prim w is st.
    let codes = c.args.library.now in
    let self = c.args.self.now in
    let t = c.args.toucher.now in
    let old = c.args.out.now in
    MatchResult-from_err c.from_residual-in_err-post_one.result _ _ c.from_residual-in_err-post_one.ensures.0
    (λ y. first-err codes m clock object prim t self w st old c.args.audience.now is
    c.post_one.new.out c.in_ok-start.start
    c.in_ok-start.ensures
    (λ v k. c.in_err-post_one.ensures.does m clock v k))

pub returns-in_err-held-clause-does : goal.returns-in_err-held-clause-does
returns-in_err-held-clause-does c = λ m clock object prim w is st.
    let codes = c.args.library.now in
    let self = c.args.self.now in
    let t = c.args.toucher.now in
    let old = c.args.out.now in
    let a = first-ok codes m clock object prim t self w st old c.args.audience.now is
    c.post_one.new.self c.post_one.new.out
    c.in_ok-start.start c.in_ok-start.ensures
    (λ v k. c.in_ok-post_one.ensures.does m clock v k) in
    MatchResult-from_err c.from_residual-in_err-held.result _ _ c.from_residual-in_err-held.ensures.0
    (λ y. amid-part _ _ _ _ _ a)

pub returns-in_err-post_one-2-clause-does : goal.returns-in_err-post_one-2-clause-does
returns-in_err-post_one-2-clause-does c = λ m clock object prim w is st.
    let codes = c.args.library.now in
    let self = c.args.self.now in
    let t = c.args.toucher.now in
    let old = c.args.out.now in
    let a = first-ok codes m clock object prim t self w st old c.args.audience.now is
    c.post_one.new.self c.post_one.new.out
    c.in_ok-start.start c.in_ok-start.ensures
    (λ v k. c.in_ok-post_one.ensures.does m clock v k) in
    MatchResult-from_err c.from_residual-in_err-post_one-2.result _ _ c.from_residual-in_err-post_one-2.ensures.0
    (λ y. second-err codes m clock object prim t self w st old c.args.audience.now is
    c.post_one.new.self c.post_one.new.out a
    c.post_one-2.new.out
    c.in_ok-held.held c.in_ok-held.ensures (λ v k. c.in_err-post_one-2.ensures.does m clock v k))

pub returns-in_err-end-clause-does : goal.returns-in_err-end-clause-does
returns-in_err-end-clause-does c = λ m clock object prim w is st.
    let codes = c.args.library.now in
    let self = c.args.self.now in
    let t = c.args.toucher.now in
    let old = c.args.out.now in
    let a = first-ok codes m clock object prim t self w st old c.args.audience.now is
    c.post_one.new.self c.post_one.new.out
    c.in_ok-start.start c.in_ok-start.ensures
    (λ v k. c.in_ok-post_one.ensures.does m clock v k) in
    let b = second-ok codes m clock object prim t self w st old c.args.audience.now is
    c.post_one.new.self c.post_one.new.out a
    c.post_one-2.new.self c.post_one-2.new.out
    c.in_ok-held.held c.in_ok-held.ensures (λ v k. c.in_ok-post_one-2.ensures.does m clock v k) in
    MatchResult-from_err c.from_residual-in_err-end.result _ _ c.from_residual-in_err-end.ensures.0
    (λ y. amid-part _ _ _ _ _ b)

pub returns-clause-does : goal.returns-clause-does
returns-clause-does c = λ m clock object prim w is st.
    let codes = c.args.library.now in
    let self = c.args.self.now in
    let t = c.args.toucher.now in
    let old = c.args.out.now in
    let a = first-ok codes m clock object prim t self w st old c.args.audience.now is
    c.post_one.new.self c.post_one.new.out
    c.in_ok-start.start c.in_ok-start.ensures
    (λ v k. c.in_ok-post_one.ensures.does m clock v k) in
    let b = second-ok codes m clock object prim t self w st old c.args.audience.now is
    c.post_one.new.self c.post_one.new.out a
    c.post_one-2.new.self c.post_one-2.new.out
    c.in_ok-held.held c.in_ok-held.ensures (λ v k. c.in_ok-post_one-2.ensures.does m clock v k) in
    third codes m clock object prim t self w st old c.args.audience.now is c.post_one-2.new.self c.post_one-3.new.self
    c.post_one-2.new.out c.post_one-3.new.out
    c.in_ok-end.end c.post_one-3.result c.in_ok-end.ensures b (λ v k. c.post_one-3.ensures.does m clock v k)

pub returns-in_err-post_one-2-clause-grid : goal.returns-in_err-post_one-2-clause-grid
returns-in_err-post_one-2-clause-grid c = record {
  seated = IfOk-from_err c.from_residual-in_err-post_one-2.result
      (λ _. AreSeated c.args.library.now c.post_one-2.new.self.seats) c.from_residual-in_err-post_one-2.ensures.0;
  outline = c.in_err-post_one-2.ensures.grid.outline ∙ c.in_ok-post_one.ensures.grid.outline;
}

pub returns-in_err-end-clause-grid : goal.returns-in_err-end-clause-grid
returns-in_err-end-clause-grid c = record {
  seated = IfOk-from_err c.from_residual-in_err-end.result
      (λ _. AreSeated c.args.library.now c.post_one-2.new.self.seats) c.from_residual-in_err-end.ensures.0;
  outline = c.in_ok-post_one-2.ensures.grid.outline ∙ c.in_ok-post_one.ensures.grid.outline;
}

pub returns-clause-grid : goal.returns-clause-grid
returns-clause-grid c = record {
  seated = c.post_one-3.ensures.grid.seated;
  outline = c.post_one-3.ensures.grid.outline ∙ c.in_ok-post_one-2.ensures.grid.outline
      ∙ c.in_ok-post_one.ensures.grid.outline;
}
