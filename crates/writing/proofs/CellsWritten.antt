-- The cells of a list, written one after the other. Assumes nothing.
use Rattle.std.proofs.Common.{◌≡◌, ℕ, ◌+◌, ◌<◌, ◌≤◌, Bool, true, false, cond, List, [], ◌∷◌, ◌++◌, map, length, get_or, take, Some, None, Option, sym, refl, ap, ◌∙◌, append-nil, arith, length-append}
use Rattle.std.specs.Prelude.{slice_set}
use mathlib.Core.List.{map-append}
use lib.ListN.{length-map}
use Rattle.std.proofs.lemmas.List.{take_more}
use Rattle.std.proofs.lemmas.List.Concat.{flat_map-append}
use Rattle.std.proofs.lemmas.List.Folds.{length-flat_map-take}
use Rattle.std.proofs.lemmas.Option.{none-some}
use Rattle.field.specs.Laws.{Model}
use Rattle.variables.specs.declared.Term.{Term}
use Rattle.variables.specs.Questions.{column}
use Rattle.account.specs.Rows.{Cell, cell_at, cells}
use Rattle.tables.specs.Held.{put}
use Rattle.tables.proofs.Puts.{put_long}
use Rattle.matrices.specs.declared.Cell.{Cell as TableCell}
use Rattle.matrices.specs.Writing.{placed}
use Rattle.writing.specs.Lists.{cell_where, cell_for}
use Rattle.writing.proofs.Places.{put_push}

module _ {V : Type 0} (m : Model V) where
  some_is : {X : Type 0} (x y : X) → Some x ≡ Some y → x ≡ y
  some_is x y e = cc

  -- a term has one cell, or none
  abbrev pick : V → ℕ → Bool → List (Cell V)
  pick k j b = cond b [] (record { number = k; column = j } ∷ [])

  abbrev pick_placed : V → ℕ → Bool → Option (TableCell V)
  pick_placed k j b = cond b None (Some (record { number = k; column = j }))

  one_picked : (k : V) (j : ℕ) (b : Bool) (c : TableCell V) → pick_placed k j b ≡ Some c → map placed (pick k j b) ≡ c ∷ []
  one_picked k j true c e = absurd (none-some c e)
  one_picked k j false c e = ap (λ x. x ∷ []) (some_is _ c e)

  none_picked : (k : V) (j : ℕ) (b : Bool) → pick_placed k j b ≡ None → pick k j b ≡ []
  none_picked k j true e = refl
  none_picked k j false e = absurd (none-some _ (sym e))

  one_cell : (k : V) (o : Option ℕ) (c : TableCell V) → cell_where m k o ≡ Some c → map placed (cell_at m k o) ≡ c ∷ []
  one_cell k None c e = absurd (none-some c e)
  one_cell k (Some j) c e = one_picked k j (m.same k m.zero) c e

  no_cell : (k : V) (o : Option ℕ) → cell_where m k o ≡ None → cell_at m k o ≡ []
  no_cell k None e = refl
  no_cell k (Some j) e = none_picked k j (m.same k m.zero) e

  module _ (n : ℕ) (list : List (Term V)) (start : List (TableCell V)) (k : ℕ) where
    abbrev cell : Term V → List (Cell V)
    cell u = cell_at m u.number (column n u.variable)

    -- the cells of so many terms are written
    abbrev done : ℕ → List (Cell V)
    done i = cells m n (take i list)

    pub record Sofar (i at : ℕ) (now : List (TableCell V)) : Type 0 where
      pub end : at ≡ k + length (done i)
      pub places : now ≡ put start k (map placed (done i))

    module _ (i at : ℕ) (now : List (TableCell V)) (t : Term V) (lt : i < length list) (is : t ≡ get_or list i t) (h : Sofar i at now) where
      abbrev here : List (Cell V)
      here = cell t

      next : done (i + 1) ≡ done i ++ here
      next =
          ap (cells m n) (take_more list i t lt) ∙ flat_map-append cell (take i list) (get_or list i t ∷ [])
          ∙ ap (λ l. done i ++ l) (append-nil _ ∙ ap cell (sym is))

      -- with no cell nothing is written
      pub passed : cell_for m n t ≡ None → Sofar (i + 1) at now
      passed e =
          let same : done (i + 1) ≡ done i = next ∙ ap (λ l. done i ++ l) (no_cell t.number (column n t.variable) e) ∙ append-nil (done i) in
          record { end = h.end ∙ ap (λ l. k + length l) (sym same); places = h.places ∙ ap (λ l. put start k (map placed l)) (sym same) }

      -- a cell has its place
      module _ (c : TableCell V) (e : cell_for m n t ≡ Some c) (room : k + length (cells m n list) ≤ length start) where
        one : map placed here ≡ c ∷ []
        one = one_cell t.number (column n t.variable) c e

        fits : k + length (done i) + 1 ≤ length start
        fits =
            let all = length-flat_map-take cell list i t lt in
            let many : length (cell (get_or list i t)) ≡ 1
            = ap (λ (u : Term V). length (cell u)) (sym is) ∙ sym (length-map here (placed {V = V})) ∙ ap length one in
            omega (arith, all, many, room)

        long : length (map (placed {V = V}) (done i)) ≡ length (done i)
        long = length-map (done i) (placed {V = V})

        pub place_there : at < length now
        place_there = omega (arith, fits, h.end, long, ap length h.places, put_long start k (map placed (done i)) (omega (arith, fits, long)))

        pub written : Sofar (i + 1) (at + 1) (slice_set now at c)
        written =
            let more : map placed (done (i + 1)) ≡ map placed (done i) ++ c ∷ []
            = ap (map placed) next ∙ map-append placed (done i) here ∙ ap (λ l. map placed (done i) ++ l) one in
            record {
              end = omega (arith, h.end, ap length next, length-append (done i) here, length-map here (placed {V = V}), ap length one);
              places =
                  put_push start k at (map placed (done i)) c now h.places place_there (omega (arith, fits, long)) (omega (arith, h.end, long))
                  ∙ ap (put start k) (sym more);
            }
