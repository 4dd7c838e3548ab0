-- When lent tables are sound for an open circuit, and which account they hold. Assumes nothing.
use Rattle.std.specs.Prelude.{ℕ, suc, ◌+◌, ◌≤◌, Bool, true, false, not, ◌&&◌, List, [], ◌∷◌, ◌++◌, map, take, drop, None}
use Rattle.std.specs.List.{list_all, AllByRecursion}
use Rattle.std.specs.Option.{is_none}
use Rattle.variables.specs.declared.Term.{Term}
use Rattle.account.specs.declared.Mark.{Mark}
use Rattle.account.specs.declared.Mark.TheVariants.{Plain, A, B, C}
use Rattle.account.specs.declared.SynthesisMode.{SynthesisMode}
use Rattle.account.specs.declared.SynthesisMode.TheVariants.{Setup, Prove}
use Rattle.account.specs.Given.{Given, marked}
use Rattle.account.specs.Finish.{lacks}
use Rattle.account.specs.Account.{Account, KeepsValues}
use Rattle.account.specs.Refusals.{terms_refusal}
use Rattle.account.specs.Sound.{SoundLists}
use Rattle.tables.specs.declared.Entry.{Entry}
use Rattle.tables.specs.Held.{State, counted, room}

-- an entry's given list, with its mark
abbrev pub given_in : {V : Type 0} → List (Term V) → Entry → Given V
given_in terms e = marked e.mark (take e.given_len (drop e.given_start terms))

-- values that are kept: all in Prove, in Setup no more than the first instance
abbrev pub kept_instances : {V : Type 0} → SynthesisMode → ℕ → List V → List V
kept_instances Setup n values = take 1 values
kept_instances (Prove matrices) n values = take n values

abbrev pub kept_witnesses : {V : Type 0} → SynthesisMode → ℕ → List V → List V
kept_witnesses Setup w values = []
kept_witnesses (Prove matrices) w values = take w values

-- so many triples A, B, C among plain marks
abbrev pub in_triples : ℕ → List Mark → Bool
in_triples ℕ.zero [] = true
in_triples (suc n) [] = false
in_triples n (Plain ∷ ms) = in_triples n ms
in_triples (suc n) (A ∷ B ∷ C ∷ ms) = in_triples n ms
in_triples n other = false

-- the triples that are due: one for each constraint, and none in bare mode
abbrev pub triples_due : SynthesisMode → ℕ → ℕ
triples_due (Prove false) constraints = 0
triples_due other constraints = constraints

-- whether an entry's given list lies in the used terms
abbrev pub span_fits : ℕ → Entry → Bool
span_fits used e = not (lacks (e.given_start + e.given_len) used)

module _ {V : Type 0} where
  -- the entries in use, their marks and their given lists
  abbrev pub entries_of : State V → List Entry
  entries_of s = take s.counts.entries (counted s.tables.index)

  abbrev pub marks_of : State V → List Mark
  marks_of s = map (λ e. e.mark) (entries_of s)

  abbrev pub given_of : State V → List (Given V)
  given_of s = map (given_in s.tables.terms) (entries_of s)

  -- the account of an open circuit that the tables hold
  abbrev pub account_of : State V → Account V
  account_of s = record {
    mode = s.counts.mode;
    goal = s.counts.goal;
    instances = record { count = s.counts.instances; kept = kept_instances s.counts.mode s.counts.instances (counted s.tables.instances) };
    witnesses = record { count = s.counts.witnesses; kept = kept_witnesses s.counts.mode s.counts.witnesses (counted s.tables.witnesses) };
    given = given_of s;
    constraints = s.counts.constraints;
    finished = None;
  }

  -- whether the counts fit the tables; of values Setup keeps the first instance alone
  abbrev pub values_fit : SynthesisMode → State V → Bool
  values_fit Setup s = not (lacks 1 (room s.tables.instances))
  values_fit (Prove matrices) s = not (lacks s.counts.instances (room s.tables.instances)) && not (lacks s.counts.witnesses (room s.tables.witnesses))

  abbrev pub counts_fit : State V → Bool
  counts_fit s =
      not (lacks s.counts.terms (room s.tables.terms)) && (not (lacks s.counts.entries (room s.tables.index)) && values_fit s.counts.mode s)

  -- whether every term of some lists is known, where `before` has the marks of the lists before them
  abbrev pub all_known : (n w : ℕ) → List Mark → List (Given V) → Bool
  all_known n w before [] = true
  all_known n w before (g ∷ gs) = is_none (terms_refusal n w before 0 0 g.terms) && all_known n w (before ++ g.mark ∷ []) gs

  -- whether the tables are sound for the circuit
  unfoldable pub sound : State V → Bool
  sound s =
      counts_fit s
      && (list_all (span_fits s.counts.terms) (entries_of s)
      && (all_known s.counts.instances s.counts.witnesses [] (given_of s)
      && in_triples (triples_due s.counts.mode s.counts.constraints) (marks_of s)))

  -- they are, exactly where:
  pub record SoundTables (s : State V) : Type 0 where
    -- the counts fit; of values Setup keeps the first instance alone;
    pub terms : s.counts.terms ≤ room s.tables.terms
    pub entries : s.counts.entries ≤ room s.tables.index
    pub first : (KeepsValues s.counts.mode → ⊥) → 1 ≤ room s.tables.instances
    pub instances : KeepsValues s.counts.mode → s.counts.instances ≤ room s.tables.instances
    pub witnesses : KeepsValues s.counts.mode → s.counts.witnesses ≤ room s.tables.witnesses
    -- every given list lies in the used terms;
    pub spans : AllByRecursion (λ e. e.given_start + e.given_len ≤ s.counts.terms) (entries_of s)
    -- each names only what is known where it stands, and marks other than plain come in triples, as many as constraints, in bare mode none.
    pub lists : SoundLists s.counts.mode s.counts.instances s.counts.witnesses s.counts.constraints (given_of s) None
