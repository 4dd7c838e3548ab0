-- What is written of a finished circuit, where writing is not refused, are the matrices of its rows. Assumes nothing.
use Rattle.std.proofs.Common.{◌≡◌, ℕ, ◌+◌, true, false, ◌↔◌, List, [], ◌∷◌, map, length, Some, None, sym, refl, subst}
use Rattle.std.specs.Option.{option_map}
use Rattle.std.specs.List.{AllByRecursion}
use Rattle.field.specs.Laws.{Model, Keeps}
use Rattle.variables.specs.Evaluate.{SymbolFree}
use Rattle.account.specs.declared.SynthesisMode.{SynthesisMode}
use Rattle.account.specs.declared.SynthesisMode.TheVariants.{Setup, Prove}
use Rattle.account.specs.Rows.{row_at, starts_from, Matrices, Marlin, Holds, FirstFailing, rows_at, matrices}
use Rattle.account.specs.Account.{KeepsMatrices}
use Rattle.account.specs.Laws.{SymbolFreeRow}
use Rattle.account.proofs.Lists.{all_at}
use Rattle.account.proofs.Finalises.{matrices_exact}
use Rattle.account.proofs.ReadsBack.{read_back}
use Rattle.account.proofs.Refuses.{some_none, some_is, when_not, first_none}
use Rattle.tables.specs.Held.{State}
use Rattle.tables.specs.Sound.{marks_of}
use Rattle.finishing.specs.Sound.{finished_of, rows_of, sound_finished, SoundFinished}
use Rattle.finishing.proofs.SoundWhen.{sound_finished_when}
use Rattle.matrices.specs.Writing.{Lent, counts_of, written_in, with_matrices, matrices_at, to_matrices_tests}
use Rattle.matrices.specs.Laws.{OfRows, Writes, WritesRows}
use Rattle.matrices.proofs.WrittenBack.{written_back}

-- where each list is so, so are the three of each row
rows_all : {X : Type 0} (P : X → Type 0) (starts : List ℕ) (xs : List (List X)) → AllByRecursion (AllByRecursion P) xs
    → AllByRecursion (λ r. AllByRecursion P r.a × AllByRecursion P r.b × AllByRecursion P r.c) (map (row_at [] xs) starts)
rows_all P [] xs h = tt
rows_all P (k ∷ ks) xs h = ((all_at P xs k h, all_at P xs (k + 1) h, all_at P xs (k + 2) h), rows_all P ks xs h)

module _ {V : Type 0} {m : Model V} (keeps : Keeps m) where
  module _ (s : State V) (sound : SoundFinished s) where
    abbrev n : ℕ
    n = s.counts.instances

    abbrev w : ℕ
    w = s.counts.witnesses

    abbrev due : Matrices V
    due = matrices m n w (rows_of s)

    -- the rows in sound tables name no symbol, and so their matrices are exact
    due_of_rows : KeepsMatrices s.counts.mode → OfRows m s due
    due_of_rows kept =
        let back = read_back m n w (rows_of s) in
        let free : AllByRecursion (SymbolFreeRow n w) (rows_of s)
        = rows_all (λ t. SymbolFree n w t.variable) (starts_from 0 (marks_of s)) (finished_of s) (sound.symbol_free kept) in
        record {
          rows = back.rows;
          rows_counted = refl;
          instances = refl;
          witnesses = refl;
          cells_counted = back.counts;
          last_end = back.last_end;
          vectors = λ z long first answer.
              subst (λ read. FirstFailing (Marlin m z) read answer ↔ FirstFailing (Holds m) (rows_at m n z (rows_of s)) answer) (sym back.rows)
              (matrices_exact keeps n w (rows_of s) free z long first answer);
        }

    -- where matrices are kept these are written
    some_written : KeepsMatrices s.counts.mode → (t : Lent V) → Writes m s (with_matrices (Some due) t) (Some (counts_of due))
    some_written kept t = record {
      bare = (λ e. absurd (some_none (counts_of due) _ refl e), λ bare. absurd (bare kept));
      written = λ counts e.
          subst (λ c. OfRows m s (written_in (with_matrices (Some due) t) c)) (some_is (counts_of due) counts e)
          (subst (OfRows m s) (sym (written_back m n w (rows_of s) t)) (due_of_rows kept));
    }

    by_mode : (t : Lent V) (mode : SynthesisMode) → s.counts.mode ≡ mode
        → let o = matrices_at m s mode in Writes m s (with_matrices o t) (option_map counts_of o)
    by_mode t Setup e = some_written (subst KeepsMatrices (sym e) tt) t
    by_mode t (Prove true) e = some_written (subst KeepsMatrices (sym e) tt) t
    by_mode t (Prove false) e = record {
      bare = (λ _ k. subst KeepsMatrices e k, λ _. refl);
      written = λ counts none. absurd (some_none counts None none refl);
    }

  pub writes_rows : WritesRows m
  writes_rows s t e =
      let tests = first_none (to_matrices_tests m s (length t.cells) (length t.ends)) e in
      by_mode s ((sound_finished_when s).0 (when_not (sound_finished s) 17 tests.0)) t s.counts.mode refl
