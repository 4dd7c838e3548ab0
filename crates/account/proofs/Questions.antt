-- What a question answers, of an open circuit and of a finished one. Assumes nothing.
use Rattle.std.proofs.Common.{◌≡◌, ℕ, ◌≤◌, List, [], ◌++◌, length, get_or, Some, None, Option, sym, refl, ap, ◌∙◌, subst, append-nil, arith}
use Rattle.std.specs.List.{slice_get}
use Rattle.std.proofs.lemmas.Option.{slice_get-get_or}
use Rattle.field.specs.Laws.{Model, Keeps}
use Rattle.variables.specs.declared.Variable.{Variable}
use Rattle.variables.specs.declared.Variable.TheVariants.{Zero, One, Instance, Witness, SymbolicLc}
use Rattle.variables.specs.declared.Term.{Term}
use Rattle.variables.specs.Worth.{value}
use Rattle.variables.specs.Evaluate.{SymbolFree, read}
use Rattle.account.specs.declared.Mark.{Mark}
use Rattle.account.specs.declared.Mark.TheVariants.{Plain, A, B, C}
use Rattle.account.specs.declared.SynthesisMode.{SynthesisMode}
use Rattle.account.specs.declared.SynthesisMode.TheVariants.{Setup, Prove}
use Rattle.account.specs.Given.{marks, lists, KnownVariable, Known}
use Rattle.account.specs.Worths.{worths}
use Rattle.account.specs.Rests.{AllKept, HasKept, Found}
use Rattle.account.specs.Rows.{Row}
use Rattle.account.specs.Evaluate.{filled}
use Rattle.account.specs.Account.{Finished, Account, KeepsValues, added_kept, if_plain, symbol_value, value_of}
use Rattle.account.proofs.Finds.{There, none_there, some_is, slice_there, values_found}
use Rattle.account.proofs.Sounds.{Keeping}
use Rattle.account.proofs.Values.{value_read}

-- of what a run keeps: no more values than variables are named
pub few_kept : {V : Type 0} (m : Model V) (cs : List (Row (List (Term V)))) (x : Account V) → Keeping m cs x → (mode : SynthesisMode) → x.mode ≡ mode
    → (length x.instances.kept ≤ x.instances.count) × (length x.witnesses.kept ≤ x.witnesses.count)
few_kept m cs x s Setup e =
    let alone = s.in_setup (λ k. subst KeepsValues e k) in
    (omega (arith, ap length alone.0, s.some_instance), omega (arith, ap length alone.1))
few_kept m cs x s (Prove matrices) e =
    let k = subst KeepsValues (sym e) tt in
    (omega (arith, s.instances_kept k), omega (arith, s.witnesses_kept k))

module _ {V : Type 0} {m : Model V} (keeps : Keeps m) (x : Account V) where
  open m.ring use {Member, zero}

  abbrev n : ℕ
  n = x.instances.count

  abbrev KnownHere : Variable → Type 0
  KnownHere v = KnownVariable n x.witnesses.count (marks x.given) v

  plain_there : (o : Option Mark) (worth : Option V) → There (if_plain m o worth) → o ≡ Some Plain
  plain_there None worth h = absurd (none_there h)
  plain_there (Some Plain) worth h = refl
  plain_there (Some A) worth h = absurd (none_there h)
  plain_there (Some B) worth h = absurd (none_there h)
  plain_there (Some C) worth h = absurd (none_there h)

  -- of an open circuit whose lists are known, and which keeps no more values than variables are named, only what is known has a value
  module _ (unfinished : x.finished ≡ None) (known : Known n x.witnesses.count x.given)
      (few : (length x.instances.kept ≤ n) × (length x.witnesses.kept ≤ x.witnesses.count)) where
    known_there : (v : Variable) → There (value_of m x v) → KnownHere v
    known_there Zero h = tt
    known_there One h = tt
    known_there (Instance i) h = omega (arith, slice_there x.instances.kept i h, few.0)
    known_there (Witness i) h =
        let here = slice_there (x.witnesses.kept ++ added_kept x.finished) i h in
        let same : x.witnesses.kept ++ added_kept x.finished ≡ x.witnesses.kept = ap (λ o. x.witnesses.kept ++ added_kept o) unfinished ∙ append-nil x.witnesses.kept in
        omega (arith, here, ap length same, few.1)
    known_there (SymbolicLc j) h =
        let table = filled m x.instances.kept x.witnesses.kept (lists x.given) in
        let is = plain_there (slice_get (marks x.given) j.0) (get_or table j.0 None) (h.0, sym (ap (λ o. symbol_value m o x j.0) unfinished) ∙ h.1) in
        let lt = slice_there (marks x.given) j.0 (Plain, is) in
        (lt, some_is _ _ (sym (slice_get-get_or (marks x.given) j.0 A lt) ∙ is))

    pub open_found : (v : Variable) → Found m n x.instances.kept x.witnesses.kept (KnownHere v × AllKept (length x.instances.kept) (length x.witnesses.kept) (lists x.given) v)
        (λ z. value m n z (worths m n z (lists x.given)) v) (value_of m x v)
    open_found v =
        let found = values_found keeps x.instances.kept x.witnesses.kept n x.witnesses.count x.given known v in
        record {
          there = (
            λ h. let here = known_there v h in (here, (found here).there.0 (h.0, sym (value_read m x unfinished v here) ∙ h.1)),
            λ h. let got = (found h.0).there.1 h.1 in (got.0, value_read m x unfinished v h.0 ∙ got.1),
          );
          stands = λ z has a e. let here = known_there v (a, e) in (found here).stands z has a (sym (value_read m x unfinished v here) ∙ e);
        }

  -- of a finished one what is kept has one, and no symbol
  module _ (done : Finished V) (finished : x.finished ≡ Some done) where
    abbrev witnesses : List V
    witnesses = x.witnesses.kept ++ done.added

    finished_read : (v : Variable) → value_of m x v ≡ read m x.instances.kept witnesses [] v
    finished_read Zero = refl
    finished_read One = refl
    finished_read (Instance i) = refl
    finished_read (Witness i) = ap (λ o. slice_get (x.witnesses.kept ++ added_kept o) i) finished
    finished_read (SymbolicLc j) = ap (λ o. symbol_value m o x j.0) finished

    abbrev reads : Variable → Option V
    reads v = read m x.instances.kept witnesses [] v

    free_there : (v : Variable) → There (reads v) → SymbolFree (length x.instances.kept) (length witnesses) v
    free_there Zero h = tt
    free_there One h = tt
    free_there (Instance i) h = slice_there x.instances.kept i h
    free_there (Witness i) h = slice_there witnesses i h
    free_there (SymbolicLc j) h = absurd (none_there h)

    there_free : (v : Variable) → SymbolFree (length x.instances.kept) (length witnesses) v → There (reads v)
    there_free Zero h = (m.zero, refl)
    there_free One h = (m.one, refl)
    there_free (Instance i) h = (get_or x.instances.kept i m.zero, slice_get-get_or x.instances.kept i m.zero h)
    there_free (Witness i) h = (get_or witnesses i m.zero, slice_get-get_or witnesses i m.zero h)
    there_free (SymbolicLc j) h = absurd h

    read_stands : (z : List Member) → HasKept m n x.instances.kept witnesses z → (v : Variable) (a : V) → reads v ≡ Some a → m.stands a ≡ value m n z [] v
    read_stands z has Zero a e = ap m.stands (sym (some_is _ _ e)) ∙ keeps.zero_stands
    read_stands z has One a e = ap m.stands (sym (some_is _ _ e)) ∙ keeps.one_stands
    read_stands z has (Instance i) a e =
        let lt = slice_there x.instances.kept i (a, e) in
        ap m.stands (some_is _ _ (sym e ∙ slice_get-get_or x.instances.kept i m.zero lt)) ∙ sym (has.of_instances i lt)
    read_stands z has (Witness i) a e =
        let lt = slice_there witnesses i (a, e) in
        ap m.stands (some_is _ _ (sym e ∙ slice_get-get_or witnesses i m.zero lt)) ∙ sym (has.of_witnesses i lt)
    read_stands z has (SymbolicLc j) a e = absurd (none_there (a, e))

    pub finished_found : (v : Variable) → Found m n x.instances.kept witnesses (SymbolFree (length x.instances.kept) (length witnesses) v) (λ z. value m n z [] v) (value_of m x v)
    finished_found v = record {
      there = (λ h. free_there v (h.0, sym (finished_read v) ∙ h.1), λ h. let got = there_free v h in (got.0, finished_read v ∙ got.1));
      stands = λ z has a e. read_stands z has v a (sym (finished_read v) ∙ e);
    }
