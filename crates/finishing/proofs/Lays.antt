-- What lies where, after some entries were taken. Assumes nothing.
use Rattle.std.proofs.Common.{◌≡◌, ℕ, ◌+◌, ◌≤◌, Bool, true, false, cond, List, [], ◌∷◌, ◌++◌, map, length, take, drop, sym, refl, ap, ◌∙◌, ap₂, append_assoc, append-nil, arith, length-append}
use mathlib.Core.List.{map-append}
use Rattle.std.specs.List.{AllByRecursion, zip}
use Rattle.std.proofs.lemmas.List.{take_at, take-append-le, drop_at, drop-take, map_push}
use Rattle.std.proofs.ByRecursion.{All-append, All-push, All-weaker}
use Rattle.std.proofs.lemmas.Bool.{cond_both}
use Rattle.field.specs.Laws.{Model}
use Rattle.variables.specs.declared.Variable.TheVariants.{One, Witness}
use Rattle.variables.specs.declared.Term.{Term}
use Rattle.variables.specs.Terms.{once}
use Rattle.account.specs.declared.Mark.TheVariants.{A, B, C}
use Rattle.account.specs.Given.{marked}
use Rattle.account.specs.Finish.{Rule, Outlined, Finishing, inlined, single, taken, finish_after}
use Rattle.account.specs.Rows.{row_marks, row_lists, added_row}
use Rattle.tables.specs.declared.Entry.{Entry}
use Rattle.tables.specs.Sound.{given_in}
use Rattle.finishing.specs.Layout.{Laid, with_finished, row_entries, laid_one, laid_after}
use Rattle.finishing.specs.Sound.{finished_in}
use Rattle.finishing.specs.Finalising.{as_given}

-- the places of a list that lie in a front are the same with more behind it
pub span_same : {X : Type 0} (start len : ℕ) (xs more : List X) → start + len ≤ length xs → take len (drop start (xs ++ more)) ≡ take len (drop start xs)
span_same start len xs more h = sym (drop-take start len (xs ++ more)) ∙ ap (drop start) (take-append-le (start + len) xs more h) ∙ drop-take start len xs

-- what was put behind a list lies there
pub span_there : {X : Type 0} (xs ys zs : List X) (start : ℕ) → length xs ≡ start → take (length ys) (drop start (xs ++ (ys ++ zs))) ≡ ys
span_there xs ys zs start e = ap (take (length ys)) (drop_at xs (ys ++ zs) start e) ∙ take_at ys zs (length ys) refl

module _ {V : Type 0} where
  -- entries whose lists lie in the terms hold the same with more terms behind
  pub finished_still : (ts more : List (Term V)) (es : List Entry) → AllByRecursion (λ e. e.finished_start + e.finished_len ≤ length ts) es
      → map (finished_in (ts ++ more)) es ≡ map (finished_in ts) es
  finished_still ts more [] h = refl
  finished_still ts more (e ∷ es) h = ap₂ (λ y ys. y ∷ ys) (span_same e.finished_start e.finished_len ts more h.0) (finished_still ts more es h.1)

  pub given_still : (ts more : List (Term V)) (es : List Entry) → AllByRecursion (λ e. e.given_start + e.given_len ≤ length ts) es
      → map (given_in (ts ++ more)) es ≡ map (given_in ts) es
  given_still ts more [] h = refl
  given_still ts more (e ∷ es) h = ap₂ (λ y ys. marked e.mark y ∷ ys) (span_same e.given_start e.given_len ts more h.0) (given_still ts more es h.1)

module _ {V : Type 0} (m : Model V) where
  -- The entries taken and those of the added rows lie in use, and hold the lists of finalising so far.
  pub record Lies (f : Finishing V) (d : Laid V) : Type 0 where
    pub finished : map (finished_in d.terms) d.taken ≡ f.finished
    pub finished_fit : AllByRecursion (λ e. e.finished_start + e.finished_len ≤ length d.terms) d.taken
    pub rows_given : map (given_in d.terms) d.rows ≡ map (λ p. marked p.0 p.1) (zip (row_marks f.outlined) (row_lists (map (added_row m) f.outlined)))
    pub rows_finished : map (finished_in d.terms) d.rows ≡ row_lists (map (added_row m) f.outlined)
    pub rows_given_fit : AllByRecursion (λ e. e.given_start + e.given_len ≤ length d.terms) d.rows
    pub rows_finished_fit : AllByRecursion (λ e. e.finished_start + e.finished_len ≤ length d.terms) d.rows

  -- so they do with more terms in use
  lies_more : (f : Finishing V) (d : Laid V) (more : List (Term V)) → Lies f d
      → Lies f (record { terms = d.terms ++ more; taken = d.taken; rows = d.rows })
  lies_more f d more h =
      let long : length d.terms ≤ length (d.terms ++ more) = omega (arith, length-append d.terms more) in
      record {
        finished = finished_still d.terms more d.taken h.finished_fit ∙ h.finished;
        finished_fit = All-weaker _ _ (λ e k. omega (arith, long, k)) d.taken h.finished_fit;
        rows_given = given_still d.terms more d.rows h.rows_given_fit ∙ h.rows_given;
        rows_finished = finished_still d.terms more d.rows h.rows_finished_fit ∙ h.rows_finished;
        rows_given_fit = All-weaker _ _ (λ e k. omega (arith, long, k)) d.rows h.rows_given_fit;
        rows_finished_fit = All-weaker _ _ (λ e k. omega (arith, long, k)) d.rows h.rows_finished_fit;
      }

  -- the lists of one added row more
  pub rows_more : (os : List (Outlined V)) (o : Outlined V)
      → row_lists (map (added_row m) (os ++ o ∷ [])) ≡ row_lists (map (added_row m) os) ++ o.merged ∷ single m One ∷ single m (Witness o.witness) ∷ []
  rows_more [] o = refl
  rows_more (p ∷ os) o = ap (λ l. p.merged ∷ single m One ∷ single m (Witness p.witness) ∷ l) (rows_more os o)

  marked_more : (os : List (Outlined V)) (o : Outlined V)
      → map (λ p. marked p.0 p.1) (zip (row_marks (os ++ o ∷ [])) (row_lists (map (added_row m) (os ++ o ∷ []))))
      ≡ map (λ p. marked p.0 p.1) (zip (row_marks os) (row_lists (map (added_row m) os)))
      ++ marked A o.merged ∷ marked B (single m One) ∷ marked C (single m (Witness o.witness)) ∷ []
  marked_more [] o = refl
  marked_more (p ∷ os) o = ap (λ l. marked A p.merged ∷ marked B (single m One) ∷ marked C (single m (Witness p.witness)) ∷ l) (marked_more os o)

  module _ (rule : Rule V) (w : ℕ) where
    pub lies_one : (f : Finishing V) (d : Laid V) (e : Entry) (merged : List (Term V)) → Lies f d → Lies (taken m rule w f merged) (laid_one m rule w f d e merged)
    lies_one f d e merged h =
        let start = length d.terms in
        let len = length merged in
        let entry = length f.finished in
        let o : Outlined V = record { entry = entry; witness = w + length f.outlined; merged = merged } in
        let one = once m One in
        let new = once m (Witness o.witness) in
        let ts = d.terms ++ merged ++ one ∷ new ∷ [] in
        let past : length (d.terms ++ merged) ≡ start + len = length-append d.terms merged in
        let long : length ts ≡ start + len + 2 = omega (arith, length-append (d.terms ++ merged) (one ∷ new ∷ []), past) in
        let a : take len (drop start ts) ≡ merged
        = ap (λ l. take len (drop start l)) (append_assoc d.terms merged (one ∷ new ∷ [])) ∙ span_there d.terms merged (one ∷ new ∷ []) start refl in
        let b : take 1 (drop (start + len) ts) ≡ one ∷ [] = span_there (d.terms ++ merged) (one ∷ []) (new ∷ []) (start + len) past in
        let c : take 1 (drop (start + len + 1) ts) ≡ new ∷ []
        = ap (λ l. take 1 (drop (start + len + 1) l)) (sym (append_assoc (d.terms ++ merged) (one ∷ []) (new ∷ [])))
        ∙ span_there ((d.terms ++ merged) ++ one ∷ []) (new ∷ []) [] (start + len + 1) (omega (arith, length-append (d.terms ++ merged) (one ∷ []), past)) in
        let less = lies_more f d merged h in
        let more = lies_more f (record { terms = d.terms ++ merged; taken = d.taken; rows = d.rows }) (one ∷ new ∷ []) less in
        let outlined : Finishing V = record { finished = f.finished ++ single m (Witness o.witness) ∷ []; outlined = f.outlined ++ o ∷ [] } in
        let kept : Finishing V = record { finished = f.finished ++ merged ∷ []; outlined = f.outlined } in
        let with_row : Laid V = record { terms = ts; taken = d.taken ++ with_finished (start + len + 1) 1 e ∷ []; rows = d.rows ++ row_entries start len } in
        let without : Laid V = record { terms = d.terms ++ merged; taken = d.taken ++ with_finished start len e ∷ []; rows = d.rows } in
        both (rule entry merged) outlined kept with_row without
        (record {
          finished = map_push (finished_in ts) d.taken (with_finished (start + len + 1) 1 e) ∙ ap₂ (λ l x. l ++ x ∷ []) more.finished c;
          finished_fit = All-push _ d.taken _ more.finished_fit (omega (arith, long));
          rows_given = map-append (given_in ts) d.rows (row_entries start len)
              ∙ (λ i. more.rows_given i ++ marked A (a i) ∷ marked B (b i) ∷ marked C (c i) ∷ []) ∙ sym (marked_more f.outlined o);
          rows_finished = map-append (finished_in ts) d.rows (row_entries start len)
              ∙ (λ i. more.rows_finished i ++ a i ∷ b i ∷ c i ∷ []) ∙ sym (rows_more f.outlined o);
          rows_given_fit = All-append _ d.rows (row_entries start len) more.rows_given_fit (omega (arith, long), (omega (arith, long), (omega (arith, long), tt)));
          rows_finished_fit = All-append _ d.rows (row_entries start len) more.rows_finished_fit (omega (arith, long), (omega (arith, long), (omega (arith, long), tt)));
        })
        (record {
          finished = map_push (finished_in (d.terms ++ merged)) d.taken (with_finished start len e)
              ∙ ap₂ (λ l x. l ++ x ∷ []) less.finished
              (ap (λ l. take len (drop start (d.terms ++ l))) (sym (append-nil merged)) ∙ span_there d.terms merged [] start refl);
          finished_fit = All-push _ d.taken _ less.finished_fit (omega (arith, past));
          rows_given = less.rows_given;
          rows_finished = less.rows_finished;
          rows_given_fit = less.rows_given_fit;
          rows_finished_fit = less.rows_finished_fit;
        })
      where
        both : (b : Bool) (x y : Finishing V) (u v : Laid V) → Lies x u → Lies y v → Lies (cond b x y) (cond b u v)
        both true x y u v p q = p
        both false x y u v p q = q

    pub lies_after : (given : List (Term V)) (f : Finishing V) (d : Laid V) (es : List Entry) → Lies f d
        → Lies (finish_after m rule w f (map (λ e. (given_in given e).terms) es)) (laid_after m rule w given f d es)
    lies_after given f d [] h = h
    lies_after given f d (e ∷ es) h =
        let merged = inlined m f.finished (given_in given e).terms in
        lies_after given (taken m rule w f merged) (laid_one m rule w f d e merged) es (lies_one f d e merged h)

    -- the terms in use before stay in front, and the marks and given columns of the entries stay
    grows_one : (f : Finishing V) (d : Laid V) (e : Entry) (merged : List (Term V))
        → (more : List (Term V)) × ((laid_one m rule w f d e merged).terms ≡ d.terms ++ more)
    grows_one f d e merged =
        cond_both (rule (length f.finished) merged) _ _ (λ (x : Laid V). (more : List (Term V)) × (x.terms ≡ d.terms ++ more))
        (λ _. (_, append_assoc d.terms merged _)) (λ _. (_, refl))

    pub laid_grows : (given : List (Term V)) (f : Finishing V) (d : Laid V) (es : List Entry)
        → (more : List (Term V)) × ((laid_after m rule w given f d es).terms ≡ d.terms ++ more)
    laid_grows given f d [] = ([], sym (append-nil d.terms))
    laid_grows given f d (e ∷ es) =
        let merged = inlined m f.finished (given_in given e).terms in
        let one = grows_one f d e merged in
        let rest = laid_grows given (taken m rule w f merged) (laid_one m rule w f d e merged) es in
        (one.0 ++ rest.0, rest.1 ∙ ap (λ l. l ++ rest.0) one.1 ∙ append_assoc d.terms one.0 rest.0)

    as_given_one : (f : Finishing V) (d : Laid V) (e : Entry) (merged : List (Term V))
        → map as_given (laid_one m rule w f d e merged).taken ≡ map as_given d.taken ++ as_given e ∷ []
    as_given_one f d e merged =
        cond_both (rule (length f.finished) merged) _ _ (λ (x : Laid V). map as_given x.taken ≡ map as_given d.taken ++ as_given e ∷ [])
        (λ _. map_push as_given d.taken _) (λ _. map_push as_given d.taken _)

    pub laid_as_given : (given : List (Term V)) (f : Finishing V) (d : Laid V) (es : List Entry)
        → map as_given (laid_after m rule w given f d es).taken ≡ map as_given d.taken ++ map as_given es
    laid_as_given given f d [] = sym (append-nil (map as_given d.taken))
    laid_as_given given f d (e ∷ es) =
        let merged = inlined m f.finished (given_in given e).terms in
        laid_as_given given (taken m rule w f merged) (laid_one m rule w f d e merged) es
        ∙ ap (λ l. l ++ map as_given es) (as_given_one f d e merged) ∙ append_assoc (map as_given d.taken) (as_given e ∷ []) (map as_given es)
