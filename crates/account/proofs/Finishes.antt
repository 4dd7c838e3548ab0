-- Finished lists are worth what the lists as written are, once the added witnesses are what they stand for. Assumes nothing.
use Rattle.std.proofs.Common.{◌≡◌, ℕ, ◌+◌, ◌<◌, ◌⊎◌, ◌↔◌, List, [], ◌∷◌, ◌++◌, map, length, get_or, sym, refl, ap, ◌∙◌, ap₂, ⊎_elim, arith}
use lib.ListN.{length-map}
use Rattle.std.specs.List.{AllByRecursion}
use Rattle.std.proofs.lemmas.List.{get_or_append_left, length_push, map_push, get_or_push}
use Rattle.std.proofs.ByRecursion.{All-push, All-weaker}
use Rattle.std.proofs.lemmas.Bool.{cond_both}
use Rattle.field.specs.Laws.{Model, Keeps}
use Rattle.variables.specs.declared.Variable.{Variable}
use Rattle.variables.specs.declared.Variable.TheVariants.{Zero, One, Instance, Witness, SymbolicLc}
use Rattle.variables.specs.declared.Term.{Term}
use Rattle.variables.specs.Worth.{value, worth}
use Rattle.variables.specs.Evaluate.{SymbolFree}
use Rattle.account.specs.Worths.{worths, worths_after}
use Rattle.account.specs.Finish.{Rule, Outlined, Finishing, untaken, expanded, inlined, single, taken, finish_after, finish}
use Rattle.account.specs.Rows.{each, Holds, added_row}
use Rattle.variables.proofs.Compacts.{compactify_worth}
use Rattle.account.proofs.Lists.{all_split}
use Rattle.account.proofs.Worths.{single_worth, expanded_worth, same_worth, worths_kept}
use Rattle.account.proofs.Counts.{Counted, symbol_free_counted, Only, earlier}

module _ {V : Type 0} {m : Model V} (keeps : Keeps m) where
  open m.ring use {Member, ◌⊗◌ as mul}

  abbrev none : Member
  none = m.ring.zero

  -- the original part of a vector is enough for the lists as written
  module _ (n w : ℕ) (original added : List Member) (long : length original ≡ n + w) where
    value_original : (ws : List Member) (v : Variable) → Counted n w v → value m n (original ++ added) ws v ≡ value m n original ws v
    value_original ws Zero c = refl
    value_original ws One c = refl
    value_original ws (Instance i) c = get_or_append_left original added none i (omega arith)
    value_original ws (Witness i) c = get_or_append_left original added none (n + i) (omega arith)
    value_original ws (SymbolicLc k) c = refl

    pub worth_original : (ts : List (Term V)) → Only (SymbolFree n w) ts → worth m (value m n (original ++ added) []) ts ≡ worth m (value m n original []) ts
    worth_original ts h =
        same_worth keeps (value m n (original ++ added) []) (value m n original []) ts (All-weaker _ _ (λ t k. value_original [] t.variable (symbol_free_counted n w t.variable k)) ts h)

    worths_original_after : (ls : List (List (Term V))) (ws : List Member) → AllByRecursion (Only (Counted n w)) ls → worths_after m n (original ++ added) ws ls ≡ worths_after m n original ws ls
    worths_original_after [] ws c = refl
    worths_original_after (l ∷ ls) ws c =
        let same = same_worth keeps (value m n (original ++ added) ws) (value m n original ws) l (All-weaker _ _ (λ t k. value_original ws t.variable k) l c.0) in
        ap (λ x. worths_after m n (original ++ added) (ws ++ x ∷ []) ls) same ∙ worths_original_after ls (ws ++ worth m (value m n original ws) l ∷ []) c.1

    pub worths_original : (ls : List (List (Term V))) → AllByRecursion (Only (Counted n w)) ls → worths m n (original ++ added) ls ≡ worths m n original ls
    worths_original ls c = worths_original_after ls [] c

  module _ (rule : Rule V) (n w : ℕ) (z : List Member) where
    -- an added witness has the value of its merged list
    abbrev pub Meets : Outlined V → Type 0
    Meets o = worth m (value m n z []) o.merged ≡ get_or z (n + o.witness) none

    -- an added witness has the worth of the list that it stands for
    abbrev pub Stands : List Member → Outlined V → Type 0
    Stands ws o = get_or z (n + o.witness) none ≡ get_or ws o.entry none

    pub row_holds : (o : Outlined V) → Holds m (each (worth m (value m n z [])) (added_row m o)) ↔ Meets o
    row_holds o =
        let left : mul (worth m (value m n z []) o.merged) (worth m (value m n z []) (single m One)) ≡ worth m (value m n z []) o.merged
        = ap (mul (worth m (value m n z []) o.merged)) (single_worth keeps (value m n z []) One) ∙ keeps.laws.times_one _ in
        let right = single_worth keeps (value m n z []) (Witness o.witness) in
        (λ h. sym left ∙ h ∙ right, λ h. left ∙ h ∙ sym right)

    pub record Agrees (s : Finishing V) (ws : List Member) : Type 0 where
      pub same : map (worth m (value m n z [])) s.finished ≡ ws
      pub added : AllByRecursion (λ o. Meets o × Stands ws o × (o.entry < length ws)) s.outlined

    -- the worths of one list more change nothing for the witnesses added before
    still : (ws : List Member) (x : Member) (os : List (Outlined V)) → AllByRecursion (λ o. Meets o × Stands ws o × (o.entry < length ws)) os → AllByRecursion (λ o. Meets o × Stands (ws ++ x ∷ []) o × (o.entry < length (ws ++ x ∷ []))) os
    still ws x os h =
        All-weaker _ _ (λ o k. (k.0, k.1 ∙ sym (get_or_append_left ws (x ∷ []) none o.entry k.2), omega (arith, length_push ws x, k.2))) os h

    -- `end` is what all lists are worth
    taken_agrees : (s : Finishing V) (ws end : List Member) (merged : List (Term V)) (x : Member) → worth m (value m n z []) merged ≡ x
        → ((k : ℕ) → k < length (ws ++ x ∷ []) → get_or end k none ≡ get_or (ws ++ x ∷ []) k none) → Agrees s ws
        → AllByRecursion (λ o. Meets o ⊎ Stands end o) (taken m rule w s merged).outlined → Agrees (taken m rule w s merged) (ws ++ x ∷ [])
    taken_agrees s ws end merged x e kept h =
        let long : length s.finished ≡ length ws = sym (length-map s.finished (worth m (value m n z []))) ∙ ap length h.same in
        let within : length s.finished < length (ws ++ x ∷ []) = omega (arith, length_push ws x) in
        let here : get_or (ws ++ x ∷ []) (length s.finished) none ≡ x = get_or_push ws x none (length s.finished) (sym long) in
        let pushed : (l : List (Term V)) → worth m (value m n z []) l ≡ x → map (worth m (value m n z [])) (s.finished ++ l ∷ []) ≡ ws ++ x ∷ []
        = λ l f. map_push (worth m (value m n z [])) s.finished l ∙ ap₂ (λ a b. a ++ b ∷ []) h.same f in
        cond_both (rule (length s.finished) merged) _ _ (λ (s' : Finishing V). AllByRecursion (λ o. Meets o ⊎ Stands end o) s'.outlined → Agrees s' (ws ++ x ∷ []))
        (λ _ b.
        let o : Outlined V = record { entry = length s.finished; witness = w + length s.outlined; merged = merged } in
        let is : get_or z (n + o.witness) none ≡ x
        = ⊎_elim (λ q. sym q ∙ e) (λ q. q ∙ kept _ within ∙ here) (all_split (λ o. Meets o ⊎ Stands end o) s.outlined (o ∷ []) b).1.0 in
        record {
          same = pushed (single m (Witness o.witness)) (single_worth keeps (value m n z []) (Witness o.witness) ∙ is);
          added = All-push _ s.outlined o (still ws x s.outlined h.added) (e ∙ sym is, is ∙ sym here, within);
        })
        (λ _ b. record { same = pushed merged e; added = still ws x s.outlined h.added })

    agrees_after : (ls : List (List (Term V))) (s : Finishing V) (ws : List Member) → Agrees s ws
        → AllByRecursion (λ o. Meets o ⊎ Stands (worths_after m n z ws ls) o) (finish_after m rule w s ls).outlined
        → Agrees (finish_after m rule w s ls) (worths_after m n z ws ls)
    agrees_after [] s ws h b = h
    agrees_after (l ∷ ls) s ws h b =
        let merged = inlined m s.finished l in
        let x = worth m (value m n z ws) l in
        let next = taken m rule w s merged in
        let end = worths_after m n z (ws ++ x ∷ []) ls in
        let e : worth m (value m n z []) merged ≡ x
        = compactify_worth keeps (value m n z []) (expanded m s.finished l) ∙ expanded_worth keeps n z s.finished ws h.same l in
        agrees_after ls next (ws ++ x ∷ [])
        (taken_agrees s ws end merged x e (λ k lt. worths_kept keeps n z (ws ++ x ∷ []) ls k lt) h (earlier m rule w (λ o. Meets o ⊎ Stands end o) ls next b)) b

    -- Whether the added rows hold or the added witnesses are what they stand for: then both are so, and the finished lists are worth
    -- what the lists as written are.
    pub finish_agrees : (ls : List (List (Term V))) → AllByRecursion (λ o. Meets o ⊎ Stands (worths m n z ls) o) (finish m rule w ls).outlined → Agrees (finish m rule w ls) (worths m n z ls)
    finish_agrees ls b = agrees_after ls (untaken) [] (record { same = refl; added = tt }) b
