-- What one write after another has written. Assumes nothing.
use Rattle.std.proofs.Common.{◌≡◌, ℕ, ◌+◌, ◌<◌, List, [], ◌∷◌, ◌++◌, length, get_or, take, Some, None, Option, Ok, Result, sym, refl, ap, ◌∙◌, append_assoc, append-nil, codes}
use Rattle.std.specs.declared.fmt.Formatter.{Formatter}
use Rattle.std.specs.declared.fmt.Error.{Error}
use Rattle.std.specs.Fmt.{DisplaysOnOk, ◌++?◌}
use Rattle.std.proofs.lemmas.Grind.{put_two}
use Rattle.std.proofs.lemmas.List.{take_more}
use Rattle.variables.specs.declared.Term.{Term}
use Rattle.variables.specs.Text.{term_text}
use Rattle.relations.specs.Text.{behind_spaces}

-- one text was written, and then another
pub both_written : {W : Type 0} (took : W → List ℕ → W → Type 0) (o p : Option (List ℕ)) (f g h : Formatter W) (r : Result (Unit {0}) Error) → DisplaysOnOk took f (Ok tt) o g → DisplaysOnOk took g r p h → DisplaysOnOk took f r (o ++? p) h
both_written took None p f g h r a b = tt
both_written took (Some x) None f g h r a b = tt
both_written took (Some x) (Some y) f g h r a b = λ plain ok. let u = a plain refl in put_two took f g h x y (x ++ y) u (b u.plain ok) refl

none_before : (o : Option (List ℕ)) → Some [] ++? o ≡ o
none_before None = refl
none_before (Some a) = refl

none_behind : (o : Option (List ℕ)) → o ++? Some [] ≡ o
none_behind None = refl
none_behind (Some a) = ap Some (append-nil a)

in_turn : (o p q : Option (List ℕ)) → (o ++? p) ++? q ≡ o ++? p ++? q
in_turn None p q = refl
in_turn (Some a) None q = refl
in_turn (Some a) (Some b) None = refl
in_turn (Some a) (Some b) (Some c) = ap Some (append_assoc a b c)

module _ {V : Type 0} (number : V → Option (List ℕ)) where
  one_more : (ts : List (Term V)) (t : Term V) → behind_spaces number (ts ++ t ∷ []) ≡ behind_spaces number ts ++? Some (codes " ") ++? term_text number t
  one_more [] t = ap (λ o. Some (codes " ") ++? o) (none_behind (term_text number t)) ∙ sym (none_before (Some (codes " ") ++? term_text number t))
  one_more (u ∷ ts) t =
      let space = Some (codes " ") in
      let rest = behind_spaces number ts in
      let more = space ++? term_text number t in
      ap (λ o. space ++? term_text number u ++? o) (one_more ts t)
      ∙ ap (λ o. space ++? o) (sym (in_turn (term_text number u) rest more))
      ∙ sym (in_turn space (term_text number u ++? rest) more)

  pub behind_more : (ts : List (Term V)) (i : ℕ) (t : Term V) → i < length ts → t ≡ get_or ts i t → behind_spaces number (take (i + 1) ts) ≡ behind_spaces number (take i ts) ++? Some (codes " ") ++? term_text number t
  behind_more ts i t lt is = ap (behind_spaces number) (take_more ts i t lt ∙ ap (λ x. take i ts ++ x ∷ []) (sym is)) ∙ one_more (take i ts) t
