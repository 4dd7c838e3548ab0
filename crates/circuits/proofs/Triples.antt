-- Marks in triples, from the head on. Assumes nothing.
use Rattle.std.proofs.Common.{◌≡◌, ℕ, zero, suc, ◌-◌, ◌<◌, ◌≤◌, true, List, [], ◌∷◌, map, length, get_or, take, drop, sym, refl, ◌∙◌, arith}
use Rattle.std.proofs.lemmas.List.{take_all}
use Rattle.account.specs.declared.Mark.{Mark}
use Rattle.account.specs.declared.Mark.TheVariants.{Plain, A, B, C}
use Rattle.tables.specs.declared.Entry.{Entry}
use Rattle.tables.specs.Sound.{in_triples}
use Rattle.circuits.specs.Triples.{is_triple}

abbrev pub marks_in : List Entry → List Mark
marks_in xs = map (λ e. e.mark) xs

at_head : (due : ℕ) (a b c : Mark) (ms : List Mark) → is_triple a b c ≡ true → in_triples (suc due) (a ∷ b ∷ c ∷ ms) ≡ in_triples due ms
at_head due A B C ms h = refl
at_head due A B Plain ms h = cc
at_head due A B A ms h = cc
at_head due A B B ms h = cc
at_head due A Plain c ms h = cc
at_head due A A c ms h = cc
at_head due A C c ms h = cc
at_head due Plain b c ms h = cc
at_head due B b c ms h = cc
at_head due C b c ms h = cc

due_less : (due : ℕ) → suc due - 1 ≡ due
due_less due = omega arith

-- a triple at the head is one of those that are due
pub triple_more : (due k : ℕ) (d : Entry) (xs : List Entry) → 3 ≤ length xs → 0 < due → length xs ≤ k
    → is_triple (get_or xs 0 d).mark (get_or xs 1 d).mark (get_or xs 2 d).mark ≡ true
    → in_triples (due - 1) (marks_in (take (k - 3) (drop 3 xs))) ≡ in_triples due (marks_in xs)
triple_more zero k d xs long some all is = absurd (omega arith)
triple_more (suc due) k d [] long some all is = absurd (omega arith)
triple_more (suc due) k d (x ∷ []) long some all is = absurd (omega arith)
triple_more (suc due) k d (x ∷ y ∷ []) long some all is = absurd (omega arith)
triple_more (suc due) k d (x ∷ y ∷ z ∷ xs) long some all is =
    (λ j. in_triples (due_less due j) (marks_in (take_all (k - 3) xs (omega arith) j))) ∙ sym (at_head due x.mark y.mark z.mark (marks_in xs) is)
