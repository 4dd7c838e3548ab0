use Rattle.std.proofs.Common.{sym, refl, ap, ◌∙◌}
use Rattle.tables.specs.Calls.{setting_mode, setting_goal, naming_instance, naming_witness, naming_list, constraining}
use Rattle.calls.specs.declared.Call.TheVariants.{SetMode, SetOptimizationGoal, NewInputVariable, NewWitnessVariable, NewLc, EnforceConstraint}
use Rattle.calls.specs.declared.Answer.TheVariants.{Done, Named}
use Rattle.account.specs.Calls as account
use Rattle.calls.specs.Calls.{rooms}
use Rattle.calls.specs.Laws.{while_open}
use Rattle.calls.specs.Does.{sets_mode, sets_goal, names_instance, names_witness, names_list, constrains}
use Rattle.constraint_system.specs.Circuit.{circuit}
use Rattle.runs.specs.Run.{laid}
use Rattle.runs.proofs.CallsDo.{does_as, check_does, question_does, misplaced_does}
use Rattle.runs.proofs.steps.answer_open.Goals as goal

pub returns-in-SetMode-clause-does : goal.returns-in-SetMode-clause-does
returns-in-SetMode-clause-does g c t =
    let s = circuit c.args.system.now c.args.tables.now in
    let b = laid c.args.work.now t in
    does_as g.F.Field.model (λ _ _. account.unit) (λ _. Done) t (rooms b) c.args.call.now (SetMode c.in-SetMode.mode) (while_open s b)
    (λ k. while_open (record s { counts = k }) b) (setting_mode s.counts c.in-SetMode.mode) c.set_mode.result c.set_mode.new.self.counts c.done.result
    c.in-SetMode.is c.set_mode.ensures c.done.ensures (λ _. refl) (sets_mode s b c.in-SetMode.mode)

pub returns-in-SetOptimizationGoal-clause-does : goal.returns-in-SetOptimizationGoal-clause-does
returns-in-SetOptimizationGoal-clause-does g c t =
    let s = circuit c.args.system.now c.args.tables.now in
    let b = laid c.args.work.now t in
    let to = c.in-SetOptimizationGoal.goal in
    does_as g.F.Field.model (λ _ _. account.unit) (λ _. Done) t (rooms b) c.args.call.now (SetOptimizationGoal to) (while_open s b)
    (λ k. while_open (record s { counts = k }) b) (setting_goal s.counts to) c.set_optimization_goal.result c.set_optimization_goal.new.self.counts
    c.done-in-SetOptimizationGoal.result
    c.in-SetOptimizationGoal.is c.set_optimization_goal.ensures c.done-in-SetOptimizationGoal.ensures (λ _. refl)
    (sets_goal s b to)

pub returns-in-NewInputVariable-clause-does : goal.returns-in-NewInputVariable-clause-does
returns-in-NewInputVariable-clause-does g c t =
    let s = circuit c.args.system.now c.args.tables.now in
    let b = laid c.args.work.now t in
    let handed = c.handed.result in
    does_as g.F.Field.model (λ _. account.named) Named t (rooms b) c.args.call.now (NewInputVariable handed) (while_open s b)
    (λ z. while_open z b) (naming_instance s handed) c.new_input_variable.result
    (circuit c.new_input_variable.new.self c.new_input_variable.new.tables) c.named.result (c.in-NewInputVariable.is ∙ ap NewInputVariable (sym c.handed.ensures)) c.new_input_variable.ensures.does c.named.ensures (λ _. refl)
    (names_instance s b handed)

pub returns-in-NewWitnessVariable-clause-does : goal.returns-in-NewWitnessVariable-clause-does
returns-in-NewWitnessVariable-clause-does g c t =
    let s = circuit c.args.system.now c.args.tables.now in
    let b = laid c.args.work.now t in
    let handed = c.handed-in-NewWitnessVariable.result in
    does_as g.F.Field.model (λ _. account.named) Named t (rooms b) c.args.call.now (NewWitnessVariable handed) (while_open s b)
    (λ z. while_open z b) (naming_witness s handed) c.new_witness_variable.result
    (circuit c.new_witness_variable.new.self c.new_witness_variable.new.tables) c.named-in-NewWitnessVariable.result
    (c.in-NewWitnessVariable.is ∙ ap NewWitnessVariable (sym c.handed-in-NewWitnessVariable.ensures)) c.new_witness_variable.ensures.does c.named-in-NewWitnessVariable.ensures (λ _. refl)
    (names_witness s b handed)

pub returns-in-NewLc-clause-does : goal.returns-in-NewLc-clause-does
returns-in-NewLc-clause-does g c t =
    let s = circuit c.args.system.now c.args.tables.now in
    let b = laid c.args.work.now t in
    let list = c.in-NewLc.list in
    does_as g.F.Field.model (λ _. account.named) Named t (rooms b) c.args.call.now (NewLc list) (while_open s b)
    (λ z. while_open z b) (naming_list s list.now) c.new_lc.result (circuit c.new_lc.new.self c.new_lc.new.tables) c.named-in-NewLc.result
    c.in-NewLc.is c.new_lc.ensures.does c.named-in-NewLc.ensures (λ _. refl) (names_list s b list.now)

pub returns-in-EnforceConstraint-clause-does : goal.returns-in-EnforceConstraint-clause-does
returns-in-EnforceConstraint-clause-does g c t =
    let s = circuit c.args.system.now c.args.tables.now in
    let b = laid c.args.work.now t in
    let of = c.in-EnforceConstraint in
    let x = of.a in
    let y = of.b in
    let z = of.c in
    does_as g.F.Field.model (λ _ _. account.unit) (λ _. Done) t (rooms b) c.args.call.now (EnforceConstraint x y z) (while_open s b)
    (λ u. while_open u b) (constraining s x.now y.now z.now) c.enforce_constraint.result
    (circuit c.enforce_constraint.new.self c.enforce_constraint.new.tables) c.done-in-EnforceConstraint.result
    of.is c.enforce_constraint.ensures.does c.done-in-EnforceConstraint.ensures (λ _. refl)
    (constrains s b x.now y.now z.now)

pub returns-in-WhichIsUnsatisfied-clause-does : goal.returns-in-WhichIsUnsatisfied-clause-does
returns-in-WhichIsUnsatisfied-clause-does g c t =
    check_does g.F.Field.model (circuit c.args.system.now c.args.tables.now) c.args.work.now c.which_is_unsatisfied.new.work t
    c.in-WhichIsUnsatisfied.places c.min-end.result c.min-end.ensures c.args.call.now c.unsatisfied.result c.which_is_unsatisfied.result
    c.in-WhichIsUnsatisfied.is c.which_is_unsatisfied.ensures.does c.unsatisfied.ensures

pub returns-in-AssignedValue-clause-does : goal.returns-in-AssignedValue-clause-does
returns-in-AssignedValue-clause-does g c t =
    question_does g.F.Field.model (circuit c.args.system.now c.args.tables.now) c.args.work.now c.assigned_value.new.work t
    c.in-AssignedValue.places c.min-end-in-AssignedValue.result c.min-end-in-AssignedValue.ensures c.args.call.now c.assigned.result c.in-AssignedValue.variable
    c.assigned_value.result c.in-AssignedValue.is c.assigned_value.ensures.does c.assigned.ensures

pub returns-in-Finalize-clause-does : goal.returns-in-Finalize-clause-does
returns-in-Finalize-clause-does g c t =
    misplaced_does g.F.Field.model (circuit c.args.system.now c.args.tables.now) (laid c.args.work.now t) c.args.call.now c.requires
    c.in-Finalize.is
