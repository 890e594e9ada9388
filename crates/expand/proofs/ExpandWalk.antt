-- The loop over the queue: what stands in the words after each turn, and that the end is what `expand_selections` promises.
-- Assumes what `Expandable` does.
use mathlib.Core.Path.{◌≡◌, refl, sym, ap, ◌∙◌, subst}
use mathlib.Core.Bool.{Bool}
use mathlib.Core.List.{List, [], ◌∷◌, ◌++◌, append-nil, append_assoc}
use Prim.Native.Nat.{ℕ, suc, ◌+◌, ◌-◌, ◌≤◌, ◌<◌}
use native.Mathlib.Omega.{arith}
use borrow.Author.Tests.{ne_eqb}
use lib.ListN.{length, get_or, length-append}
use lib.Seq.{get_or_at}
use Rattle.lists.proofs.Parts.{stores_length, stores_get_or, stores_none}
use Rattle.merge_theory.specs.Lists.{◌∈◌, flat_map, filter, is_in}
use Rattle.merge_theory.specs.Document.{Document, is_field}
use Rattle.merge_theory.specs.Expand.{queued, marked, QueueWalk, empty, pop, fields_of}
use Rattle.merge_theory.proofs.ListLaws.{not_in_nil, in_left, from_filter}
use Rattle.merge_theory.proofs.QueueLaws.{queued_append, marked_append}
use Rattle.merge_theory.proofs.Loops.{flat_map_append, filter_append}
use Rattle.tables.specs.declared.Range.{Range}
use Rattle.tables.specs.Layout.{sets}
use Rattle.tables.specs.Columns.{set_selections}
use Rattle.expand.specs.declared.Area.{Area}
use Rattle.expand.specs.declared.Expansion.{Expansion}
use Rattle.expand.specs.ImageDocument.{up_from, document_by}
use Rattle.expand.specs.Expanding.{Once, once_none, Expandable, Framed, Listed, Expanded, Fresh, FieldRows}
use Rattle.expand.specs.ExpandSteps.{Task, document_of, Shows, Steps}
use Rattle.expand.proofs.OnceLaws.{once_left, once_filter}
use Rattle.expand.proofs.DocumentLaws.{field_by_kind}
use Rattle.expand.proofs.QueueRows.{queue_of, queue_known, queue_once, list_fits, rows_fresh}
use Rattle.expand.proofs.StepLaws.{framed_none, framed_trans, listed_grows}

-- the fields of sets, set by set
pub fields_of_all : (D : Document) (sets : List ℕ) → filter (λ r. is_field (D.kind_of r)) (flat_map D.rows_of sets) ≡ flat_map (fields_of D) sets
unfolding flat_map filter fields_of
fields_of_all D [] = refl
fields_of_all D (u ∷ sets) =
    filter_append (λ r. is_field (D.kind_of r)) (D.rows_of u) (flat_map D.rows_of sets)
    ∙ ap (λ (l : List ℕ). filter (λ r. is_field (D.kind_of r)) (D.rows_of u) ++ l) (fields_of_all D sets)

module _ {image : List ℕ} {area : Area} where
  abbrev rows_in : Task image area → List ℕ → List ℕ
  rows_in t sets = flat_map (document_of image area t).rows_of sets

  fields_fresh : (t : Task image area) (rows : List ℕ) → Fresh image rows
      → FieldRows image (filter (λ r. is_field ((document_of image area t).kind_of r)) rows)
  fields_fresh t rows fresh =
      let p : ℕ → Bool = λ r. is_field ((document_of image area t).kind_of r) in
      record {
        fresh = record { inside = λ r m. fresh.inside r (from_filter p rows m).0; once = once_filter p rows fresh.once };
        fields = λ r m. field_by_kind t.good t.same_shape t.same_arguments r (from_filter p rows m).1;
      }

  -- `front` has left the queue, and `rest` stands in it
  pub record Walking (t : Task image area) (walked : ℕ) (s s' : List ℕ) (x x' : Expansion) : Type 0 where
    pub front : List ℕ
    pub rest : List ℕ
    pub count : length front ≡ walked
    pub whole : queue_of t (rows_in t front) ≡ front ++ rest
    pub goes : (visited : List ℕ) → QueueWalk (document_of image area t) (marked (document_of image area t) [] (rows_in t front)) rest visited
        → QueueWalk (document_of image area t) [] t.starts (front ++ visited)
    pub fresh : Fresh image (rows_in t front)
    pub shows : Shows image area t (rows_in t front) s' x'
    pub frame : Framed image area s s' x.listed x'.listed
    pub grows : x.listed ≤ x'.listed

  pub walking_first : (t : Task image area) (s : List ℕ) (x : Expansion) → Shows image area t [] s x → Walking t 0 s s x x
  unfolding flat_map queued marked
  walking_first t s x at = record {
    front = [];
    rest = t.starts;
    count = refl;
    whole = append-nil t.starts;
    goes = λ visited w. w;
    fresh = record { inside = λ r m. absurd (not_in_nil m); once = once_none };
    shows = at;
    frame = framed_none s x.listed;
    grows = omega arith;
  }

  module _ {t : Task image area} {walked : ℕ} {s₀ s : List ℕ} {x₀ x : Expansion} (w : Walking t walked s₀ s x₀ x) where
    abbrev D : Document
    D = document_of image area t

    abbrev rows : List ℕ
    rows = rows_in t w.front

    -- as many as the code counts
    held : x.queued ≡ walked + length w.rest
    held = sym (stores_length w.shows.queue) ∙ ap length w.whole ∙ length-append w.front w.rest ∙ ap (λ (n : ℕ). n + length w.rest) w.count

    -- the set that leaves the queue next
    module _ (u : ℕ) (rest : List ℕ) (e : w.rest ≡ u ∷ rest) where
      whole : queue_of t rows ≡ w.front ++ (u ∷ rest)
      whole = w.whole ∙ ap (λ (l : List ℕ). w.front ++ l) e

      split : w.front ++ (u ∷ rest) ≡ (w.front ++ (u ∷ [])) ++ rest
      split = sym (append_assoc w.front (u ∷ []) rest)

      next_set_lem : walked < x.queued → get_or s (area.queue + walked) 0 ≡ u
      next_set_lem h =
          stores_get_or w.shows.queue walked h ∙ ap (λ (l : List ℕ). get_or l walked 0) whole ∙ get_or_at w.front u rest 0 walked w.count

      next_rows : rows_in t (w.front ++ (u ∷ [])) ≡ rows ++ D.rows_of u
      unfolding flat_map
      next_rows = flat_map_append D.rows_of w.front (u ∷ []) ∙ ap (λ (l : List ℕ). rows ++ l) (append-nil (D.rows_of u))

      next_fresh : Fresh image (rows_in t (w.front ++ (u ∷ [])))
      next_fresh =
          rows_fresh t (w.front ++ (u ∷ []))
          (once_left (w.front ++ (u ∷ [])) rest (subst Once (whole ∙ split) (queue_once t rows w.fresh)))
          (λ v m. queue_known t rows w.fresh v (subst (λ (l : List ℕ). v ∈ l) (sym (whole ∙ split)) (in_left rest m)))

      next_whole : queue_of t (rows_in t (w.front ++ (u ∷ []))) ≡ (w.front ++ (u ∷ [])) ++ (rest ++ queued D (marked D [] rows) (D.rows_of u))
      next_whole =
          let new = queued D (marked D [] rows) (D.rows_of u) in
          ap (queue_of t) next_rows
          ∙ ap (λ (l : List ℕ). t.starts ++ l) (queued_append D [] rows (D.rows_of u))
          ∙ sym (append_assoc t.starts (queued D [] rows) new)
          ∙ ap (λ (l : List ℕ). l ++ new) (whole ∙ split)
          ∙ append_assoc (w.front ++ (u ∷ [])) rest new

      next_goes : (visited : List ℕ)
          → QueueWalk D (marked D [] (rows_in t (w.front ++ (u ∷ [])))) (rest ++ queued D (marked D [] rows) (D.rows_of u)) visited
          → QueueWalk D [] t.starts ((w.front ++ (u ∷ [])) ++ visited)
      next_goes visited q =
          let new = queued D (marked D [] rows) (D.rows_of u) in
          let popped = pop (subst (λ (m : List ℕ). QueueWalk D m (rest ++ new) visited) (ap (marked D []) next_rows ∙ marked_append D [] rows (D.rows_of u)) q) in
          subst (λ (l : List ℕ). QueueWalk D [] t.starts l) (sym (append_assoc w.front (u ∷ []) visited))
          (w.goes (u ∷ visited) (subst (λ (l : List ℕ). QueueWalk D (marked D [] rows) l (u ∷ visited)) (sym e) popped))

      next : {s' : List ℕ} {x' : Expansion} → Steps image area (D.rows_of u) s s' x x' → Walking t (walked + 1) s₀ s' x₀ x'
      next {s'} {x'} steps =
          let fresh : Fresh image (rows ++ D.rows_of u) = rw (← next_rows) next_fresh in
          let after = steps.shows t rows fresh w.shows in
          let more = listed_grows rows (D.rows_of u) w.shows after in
          let grows = w.grows in
          record {
            front = w.front ++ (u ∷ []);
            rest = rest ++ queued D (marked D [] rows) (D.rows_of u);
            count = length-append w.front (u ∷ []) ∙ ap (λ (n : ℕ). n + 1) w.count;
            whole = next_whole;
            goes = next_goes;
            fresh = next_fresh;
            shows = rw next_rows after;
            frame = framed_trans grows more w.frame (steps.frame t rows fresh w.shows);
            grows = omega arith;
          }

  -- a turn: the set that the code reads leaves the queue
  pub walking_turn : {t : Task image area} {walked : ℕ} {s₀ s s' : List ℕ} {x₀ x x' : Expansion} {u : ℕ} → Walking t walked s₀ s x₀ x → walked < x.queued
      → u ≡ get_or s (area.queue + walked) 0 → Steps image area (up_from (set_selections image u).first (set_selections image u).count) s s' x x'
      → Walking t (walked + 1) s₀ s' x₀ x'
  unfolding document_by
  walking_turn {t} {walked} {s₀} {s} {s'} {x₀} {x} {x'} {u} w h read steps = by_rest w.rest refl
    where
      by_rest : (rest : List ℕ) → w.rest ≡ rest → Walking t (walked + 1) s₀ s' x₀ x'
      by_rest [] e = absurd (let none : length w.rest ≡ 0 = ap length e in omega (arith, held w))
      by_rest (v ∷ rest) e =
          let same : u ≡ v = read ∙ next_set_lem w v rest e h in
          next w v rest e (rw same at steps)

  -- the end: nothing is left in the queue
  pub walking_end : {t : Task image area} {walked : ℕ} {s₀ s : List ℕ} {x₀ x : Expansion} → Walking t walked s₀ s x₀ x → x.queued ≤ walked
      → t.from ≡ x₀.listed → t.number ≡ x₀.number → Listed image area (document_of image area t) s₀ s x₀ x.listed t.starts
  walking_end {t} {walked} {s₀} {s} {x₀} {x} w h from number = by_rest w.rest refl
    where
      by_rest : (rest : List ℕ) → w.rest ≡ rest → Listed image area (document_of image area t) s₀ s x₀ x.listed t.starts
      by_rest (v ∷ rest) e = absurd (let some : length w.rest ≡ suc (length rest) = ap length e in omega (arith, held w))
      by_rest [] e = record {
        visited = w.front;
        walk = subst (λ (l : List ℕ). QueueWalk (document_of image area t) [] t.starts l) (append-nil w.front) (w.goes [] (rw e empty));
        list = rw (← from, ← fields_of_all (document_of image area t) w.front) w.shows.list;
        rows = rw (← fields_of_all (document_of image area t) w.front) (fields_fresh t (rows_in t w.front) w.fresh);
        grows = w.grows;
        most = omega (arith, list_fits t (rows_in t w.front) w.fresh (λ r. is_field ((document_of image area t).kind_of r)), stores_length w.shows.list);
        marks = rw (← number, ← w.shows.number) w.shows.marks;
        frame = w.frame;
      }

  -- the start
  abbrev pub task_of : {s : List ℕ} {x : Expansion} {starts : List ℕ} (same_shape : ℕ → ℕ → Bool) (same_arguments : Range → Range → Bool)
      → Expandable image area s x starts → Task image area
  task_of {x = x} {starts = starts} same_shape same_arguments ready = record {
    same_shape = same_shape;
    same_arguments = same_arguments;
    starts = starts;
    from = x.listed;
    number = x.number;
    good = ready.good;
    regions = ready.regions;
    allowed = ready.allowed;
    once = ready.once;
    small = ready.small;
  }

  pub shows_first : {s : List ℕ} {x : Expansion} {starts : List ℕ} (same_shape : ℕ → ℕ → Bool) (same_arguments : Range → Range → Bool)
      (ready : Expandable image area s x starts) → Shows image area (task_of same_shape same_arguments ready) [] s x
  unfolding queued marked filter is_in
  shows_first {s} {x} {starts} same_shape same_arguments ready =
      let nothing : x.listed - x.listed ≡ 0 = omega arith in
      let inside : area.store + x.listed ≤ length s = omega (arith, ready.room) in
      record {
        number = refl;
        queue = rw (append-nil starts) ready.queue;
        ahead = omega arith;
        list = rw nothing (stores_none s (area.store + x.listed) inside);
        seen = λ j h. ne_eqb (get_or s (area.marks + j) 0) x.number (unlike j (ready.marks j h));
        marks = λ j h. omega (arith, ready.marks j h);
        room = ready.room;
      }
    where
      unlike : (j : ℕ) → get_or s (area.marks + j) 0 < x.number → get_or s (area.marks + j) 0 ≡ x.number → ⊥
      unlike j less e = omega arith

-- the loop's invariant: the words keep their number, and whatever could be expanded is under way
pub record Underway (image : List ℕ) (area : Area) (walked : ℕ) (s s' : List ℕ) (x x' : Expansion) : Type 0 where
  pub long : length s' ≡ length s
  pub walking : (same_shape : ℕ → ℕ → Bool) (same_arguments : Range → Range → Bool) (starts : List ℕ) (ready : Expandable image area s x starts)
      → Walking (task_of same_shape same_arguments ready) walked s s' x x'

module _ {image : List ℕ} {area : Area} where
  pub underway_first : (s : List ℕ) (x : Expansion) → Underway image area 0 s s x x
  underway_first s x = record {
    long = refl;
    walking = λ same_shape same_arguments starts ready. walking_first (task_of same_shape same_arguments ready) s x (shows_first same_shape same_arguments ready);
  }

  pub underway_turn : {walked : ℕ} {s₀ s s' : List ℕ} {x₀ x x' : Expansion} {u at : ℕ} → Underway image area walked s₀ s x₀ x → walked < x.queued
      → at ≡ area.queue + walked → u ≡ get_or s at 0
      → Steps image area (up_from (set_selections image u).first (set_selections image u).count) s s' x x' → Underway image area (walked + 1) s₀ s' x₀ x'
  underway_turn {s = s} a h here read steps = record {
    long = steps.long ∙ a.long;
    walking = λ same_shape same_arguments starts ready.
        walking_turn (a.walking same_shape same_arguments starts ready) h (read ∙ ap (λ (k : ℕ). get_or s k 0) here) steps;
  }

  pub underway_end : {walked : ℕ} {s₀ s : List ℕ} {x₀ x : Expansion} → Underway image area walked s₀ s x₀ x → x.queued ≤ walked → Expanded image area s₀ s x₀ x.listed
  underway_end a h = record {
    long = a.long;
    lists = λ same_shape same_arguments starts ready. walking_end (a.walking same_shape same_arguments starts ready) h refl refl;
  }
