-- What the worklist finds, on an image without fault: a set is in its queue exactly if the range reaches it, and has the mark `led`
-- exactly if a set that is reached leads to it; a fragment's set has that mark exactly if the fragment is spread in a reached set.
-- Assumes nothing.
use mathlib.Core.Path.{◌≡◌, refl, sym, ap, subst, ◌∙◌}
use mathlib.Core.Bool.{Bool, true, false, cond}
use mathlib.Core.List.{List}
use Prim.Native.Nat.{ℕ, zero, suc, ◌+◌, ◌-◌, ◌≤◌, ◌<◌}
use native.Mathlib.Nat.{not-suc-le-zero}
use native.Mathlib.Decide.{ℕ_discrete}
use native.Mathlib.Omega.{arith}
use lib.Dec.{ltb}
use lib.ListN.{length, get_or}
use borrow.Author.Tests.{ltb-true, ltb-false}
use Rattle.tables.specs.declared.Range.{Range}
use Rattle.tables.specs.Layout.{operations, fragments, sets, selections}
use Rattle.tables.specs.Image.{count_at, row_in}
use Rattle.tables.specs.Columns.{field, spread, inline, set_selections, selection_kind, selection_target, selection_at, fragment_set, set_below}
use Rattle.tables.specs.Good.{Good, StandsIn, GoodOwned}
use Rattle.tables.proofs.Counts.{few_rows}
use Rattle.tables.proofs.Ranges.{row_in_lem}
use Rattle.tables.proofs.ColumnLaws.{below_spread, below_own, stands, stands_below}
use Rattle.reach.specs.Turns.{turns}
use Rattle.reach.specs.Reach.{Leads, Reaches, itself, onward, SpreadsIn, RowOf, ReachedFrom, LedFrom, SpreadFrom, Among, Walk, begun, led, enter_set, member_of, walk_selection, walk_set, walk_queue, none_met, start_sets, reached_from}
use Rattle.reach.proofs.WalkLaws.{walk_ends}
use Rattle.reach.proofs.Marks.{mark_of, Sane, sane_few, sane_none, none_marked, marked_known, entered}

-- ---- so many steps suffice, on any image

module _ (image : List ℕ) where
  turns_sane : (turn : ℕ → Walk → Walk) → ((k : ℕ) (w : Walk) → Sane image w → Sane image (turn k w)) → (n : ℕ) (w : Walk) → Sane image w → Sane image (turns turn n w)
  unfolding turns
  turns_sane turn each zero w s = s
  turns_sane turn each (suc n) w s = each n _ (turns_sane turn each n w s)

  pub set_sane : (t : ℕ) (w : Walk) → Sane image w → Sane image (walk_set image t w)
  unfolding walk_set walk_selection
  set_sane t = turns_sane _ (λ k w s. (entered image led _ (λ e. omega arith) w s).sane) _

  pub start_sane : (range : Range) → Sane image (start_sets image range)
  unfolding start_sets
  start_sane range = turns_sane _ (λ k w s. (entered image begun _ (λ e. omega arith) w s).sane) _ _ (sane_none image)

  pub walk_steps : (n m at : ℕ) (w : Walk) → Sane image w → count_at image sets ≤ at + n → count_at image sets ≤ at + m → walk_queue image n at w ≡ walk_queue image m at w
  unfolding walk_queue
  walk_steps zero m at w s hn hm = let few = sane_few image s in sym (walk_ends image m at w (omega arith))
  walk_steps (suc n) zero at w s hn hm = let few = sane_few image s in walk_ends image (suc n) at w (omega arith)
  walk_steps (suc n) (suc m) at w s hn hm =
      ap (λ (v : Walk). cond (ltb at (length w.queue)) v w)
      (walk_steps n m (suc at) (walk_set image (get_or w.queue at 0) w) (set_sane _ w s) (omega arith) (omega arith))

-- ---- reaching goes on

pub reaches_trans : {image : List ℕ} {s t u : ℕ} → Reaches image s t → Reaches image t u → Reaches image s u
reaches_trans r itself = r
reaches_trans r (onward q l) = onward (reaches_trans r q) l

-- ---- the tables of a good image are small

module _ (image : List ℕ) (good : Good image) where
  pub few_sets : count_at image sets ≤ 4096
  few_sets = few_rows image good.few sets (omega arith)

  pub few_selections : count_at image selections ≤ 8192
  few_selections = few_rows image good.few selections (omega arith)

  -- ---- the rows of a set

  pub member_is : (s k : ℕ) → s < count_at image sets → k < (set_selections image s).count → member_of image s k ≡ (set_selections image s).first + k
  member_is s k h l =
      let ends = (good.set s h).within.ends in
      let few = few_selections in
      row_in_lem (set_selections image s) k (omega arith)

  pub member_stands : (s k : ℕ) → s < count_at image sets → k < (set_selections image s).count → StandsIn image (member_of image s k) s
  member_stands s k h l =
      let row = member_is s k h l in
      stands h (omega arith) (omega arith)

  -- a row that stands in a set is a member of it
  pub stands_member : (r s : ℕ) → StandsIn image r s → (k : ℕ) × (k < (set_selections image s).count) × (member_of image s k ≡ r)
  stands_member r s i =
      let k = r - (set_selections image s).first in
      let from : (set_selections image s).first ≤ r = i.from in
      let below : r < (set_selections image s).first + (set_selections image s).count = stands_below i in
      let inside : k < (set_selections image s).count = omega arith in
      let row = member_is s k i.known inside in
      (k, inside, row ∙ omega arith)

  -- ---- under way: the sets before `at` have been walked

  module _ (range : Range) (within : range.first + range.count ≤ count_at image sets) where
    -- a mark says what it should
    pub data Right (t m : ℕ) : Type 0 where
      at_start_lem : m ≡ begun → RowOf range t → Right t m
      by_lead : m ≡ led → LedFrom image range t → Right t m

    pub record Under (at : ℕ) (w : Walk) : Type 0 where
      pub sane : Sane image w
      pub inside : at ≤ length w.queue
      pub right : (t : ℕ) → (mark_of image w t ≡ 0 → ⊥) → Right t (mark_of image w t)
      pub starts : (t : ℕ) → RowOf range t → mark_of image w t ≡ 0 → ⊥
      pub done : (i : ℕ) → i < at → (t : ℕ) → Leads image (get_or w.queue i 0) t → mark_of image w t ≡ led

    -- what is marked is reached
    reached_right : {t m : ℕ} → Right t m → ReachedFrom image range t
    reached_right {t} (at_start_lem e s) = record { start = t; starts = s; reaches = itself }
    reached_right (by_lead e l) =
        record { start = l.reached.start; starts = l.reached.starts; reaches = onward l.reached.reaches l.leads }

    led_differs : led ≡ 0 → ⊥
    led_differs e = omega arith

    led_kept : (t u : ℕ) (w : Walk) → Sane image w → mark_of image w u ≡ led → mark_of image (enter_set image led t w) u ≡ led
    led_kept t u w s e =
        let n = entered image led t led_differs w s in
        elim (ℕ_discrete u t) [
          | yes p ↦
              let known : u < count_at image sets = marked_known image s u (λ z. led_differs (sym e ∙ z)) in
              rw p (n.here (omega arith))
          | no q ↦ n.elsewhere u q ∙ e
        ]

    -- a set is met that a reached one leads to
    under_led : (at t : ℕ) (w : Walk) → Under at w → (t < count_at image sets → LedFrom image range t) → Under at (enter_set image led t w)
    under_led at t w u from =
        let n = entered image led t led_differs w u.sane in
        let longer = n.longer in
        let before = u.inside in
        record {
          sane = n.sane;
          inside = omega arith;
          right = λ v m. elim (ℕ_discrete v t) [
            | yes p ↦
                let known : v < count_at image sets = marked_known image n.sane v m in
                let here : t < count_at image sets = omega arith in
                rw p (by_lead (n.here here) (from here))
            | no q ↦ rw (n.elsewhere v q) (u.right v (λ z. m (n.elsewhere v q ∙ z)))
          ];
          starts = λ v s. stays v (u.starts v s);
          done = λ i l v h. led_kept t v w u.sane (u.done i l v (subst (λ (q : ℕ). Leads image q v) (n.same i (omega arith)) h));
        }
      where
        stays : (v : ℕ) → (mark_of image w v ≡ 0 → ⊥) → mark_of image (enter_set image led t w) v ≡ 0 → ⊥
        stays v m z =
            let n = entered image led t led_differs w u.sane in
            elim (ℕ_discrete v t) [
              | yes p ↦
                  let known : v < count_at image sets = marked_known image u.sane v m in
                  let here : mark_of image (enter_set image led t w) v ≡ led = rw p (n.here (omega arith)) in
                  led_differs (sym here ∙ z)
              | no q ↦ m (sym (n.elsewhere v q) ∙ z)
            ]

    -- ---- the rows of the set at `at`

    -- after i of its rows, what those lead to is marked
    record Rows (at s i : ℕ) (w : Walk) : Type 0 where
      under : Under at w
      less : at < length w.queue
      here : get_or w.queue at 0 ≡ s
      led_below : (k : ℕ) → k < i → set_below image (selection_at image (member_of image s k)) < count_at image sets → mark_of image w (set_below image (selection_at image (member_of image s k))) ≡ led

    module _ (at s : ℕ) (known : s < count_at image sets) (reached : ReachedFrom image range s) where
      member_leads : (k : ℕ) → k < (set_selections image s).count → set_below image (selection_at image (member_of image s k)) < count_at image sets → LedFrom image range (set_below image (selection_at image (member_of image s k)))
      member_leads k l h =
          record { via = s; reached = reached; leads = record { row = member_of image s k; stands = member_stands s k known l; below = refl; known = h } }

      rows_next : (i : ℕ) (w : Walk) → i < (set_selections image s).count → Rows at s i w → Rows at s (suc i) (walk_selection image (member_of image s i) w)
      unfolding walk_selection
      rows_next i w l r =
          let t = set_below image (selection_at image (member_of image s i)) in
          let n = entered image led t led_differs w r.under.sane in
          let longer = n.longer in
          let less = r.less in
          record {
            under = under_led at t w r.under (member_leads i l);
            less = omega arith;
            here = n.same at less ∙ r.here;
            led_below = λ k m h. elim (ℕ_discrete k i) [
              | yes p ↦ subst (λ (j : ℕ). set_below image (selection_at image (member_of image s j)) < count_at image sets → mark_of image (enter_set image led t w) (set_below image (selection_at image (member_of image s j))) ≡ led) (sym p) n.here h
              | no q ↦ led_kept t _ w r.under.sane (r.led_below k (omega arith) h)
            ];
          }

      rows_all : (i : ℕ) (w : Walk) → i ≤ (set_selections image s).count → Rows at s zero w → Rows at s i (turns (λ k. walk_selection image (member_of image s k)) i w)
      unfolding turns
      rows_all zero w h r = r
      rows_all (suc i) w h r = rows_next i _ h (rows_all i w (omega arith) r)

      rows_done : (w : Walk) → Rows at s (set_selections image s).count w → Under (suc at) w
      rows_done w r =
          record {
            sane = r.under.sane;
            inside = r.less;
            right = r.under.right;
            starts = r.under.starts;
            done = λ i l t h. elim (ℕ_discrete i at) [
              | yes p ↦ now t (subst (λ (q : ℕ). Leads image q t) (ap (λ (j : ℕ). get_or w.queue j 0) p ∙ r.here) h)
              | no q ↦ r.under.done i (omega arith) t h
            ];
          }
        where
          now : (t : ℕ) → Leads image s t → mark_of image w t ≡ led
          now t h =
              let (k, l, e) = stands_member h.row s h.stands in
              let same : set_below image (selection_at image (member_of image s k)) ≡ t = ap (λ (r : ℕ). set_below image (selection_at image r)) e ∙ h.below in
              let inside : t < count_at image sets = h.known in
              subst (λ (u : ℕ). mark_of image w u ≡ led) same (r.led_below k l (rw same inside))

    under_next : (at : ℕ) (w : Walk) → at < length w.queue → Under at w → Under (suc at) (walk_set image (get_or w.queue at 0) w)
    unfolding walk_set
    under_next at w less u =
        let s = get_or w.queue at 0 in
        let mark = u.sane.met at less in
        let known = marked_known image u.sane s mark in
        let reached = reached_right (u.right s mark) in
        let first : Rows at s zero w = record { under = u; less = less; here = refl; led_below = λ k l. absurd (not-suc-le-zero l) } in
        rows_done at s known reached _ (rows_all at s known reached (set_selections image s).count w (omega arith) first)

    -- ---- the whole queue

    -- all sets in the queue have been walked
    abbrev Over : Walk → Type 0
    Over w = (at : ℕ) × Under at w × (length w.queue ≤ at)

    over_all : (steps at : ℕ) (w : Walk) → count_at image sets ≤ at + steps → Under at w → Over (walk_queue image steps at w)
    unfolding walk_queue
    over_all zero at w h u = let few = sane_few image u.sane in (at, u, omega arith)
    over_all (suc steps) at w h u = go (ltb at (length w.queue)) refl (over_all steps (suc at) (walk_set image (get_or w.queue at 0) w))
      where
        go : (b : Bool) → ltb at (length w.queue) ≡ b
            → (count_at image sets ≤ suc at + steps → Under (suc at) (walk_set image (get_or w.queue at 0) w) → Over (walk_queue image steps (suc at) (walk_set image (get_or w.queue at 0) w)))
            → Over (cond b (walk_queue image steps (suc at) (walk_set image (get_or w.queue at 0) w)) w)
        go true e rest = rest (omega arith) (under_next at w (ltb-true _ _ e) u)
        go false e rest = (at, u, ltb-false _ _ e)

    -- ---- the start

    begun_differs : begun ≡ 0 → ⊥
    begun_differs e = omega arith

    -- the first i sets of the range are met, and no other
    record Begins (i : ℕ) (w : Walk) : Type 0 where
      sane : Sane image w
      right : (t : ℕ) → (mark_of image w t ≡ 0 → ⊥) → (mark_of image w t ≡ begun) × RowOf range t
      starts : (k : ℕ) → k < i → mark_of image w (range.first + k) ≡ 0 → ⊥

    begins_next : (i : ℕ) (w : Walk) → i < range.count → Begins i w → Begins (suc i) (enter_set image begun (row_in range i) w)
    begins_next i w l b =
        let t = row_in range i in
        let few = few_sets in
        let row : row_in range i ≡ range.first + i = row_in_lem range i (omega arith) in
        let n = entered image begun t begun_differs w b.sane in
        let here : mark_of image (enter_set image begun t w) t ≡ begun = n.here (omega arith) in
        record {
          sane = n.sane;
          right = λ v m. elim (ℕ_discrete v t) [
            | yes p ↦ (rw p here, record { from = omega arith; below = omega arith })
            | no q ↦ let old = b.right v (λ z. m (n.elsewhere v q ∙ z)) in (n.elsewhere v q ∙ old.0, old.1)
          ];
          starts = λ k m z. elim (ℕ_discrete (range.first + k) t) [
            | yes p ↦ begun_differs (sym here ∙ subst (λ (q : ℕ). mark_of image (enter_set image begun t w) q ≡ 0) p z)
            | no q ↦ b.starts k (omega arith) (sym (n.elsewhere (range.first + k) q) ∙ z)
          ];
        }

    begins_none : Begins zero (none_met image)
    begins_none =
        record {
          sane = sane_none image;
          right = λ t m. absurd (unmarked t m);
          starts = λ k l. absurd (not-suc-le-zero l);
        }
      where
        unmarked : (t : ℕ) → (mark_of image (none_met image) t ≡ 0 → ⊥) → ⊥
        unmarked t m = m (none_marked image t)

    begins_all : (i : ℕ) → i ≤ range.count → Begins i (turns (λ k. enter_set image begun (row_in range k)) i (none_met image))
    unfolding turns
    begins_all zero h = begins_none
    begins_all (suc i) h = begins_next i _ h (begins_all i (omega arith))

    begins_under : (w : Walk) → Begins range.count w → Under zero w
    begins_under w b =
        record {
          sane = b.sane;
          inside = omega arith;
          right = λ t m. let old = b.right t m in at_start_lem old.0 old.1;
          starts = λ t s z.
              let from : range.first ≤ t = s.from in
              let below : t < range.first + range.count = s.below in
              let place : range.first + (t - range.first) ≡ t = omega arith in
              b.starts (t - range.first) (omega arith) (ap (mark_of image w) place ∙ z);
          done = λ i l. absurd (not-suc-le-zero l);
        }

    over : Over (reached_from image range)
    unfolding reached_from start_sets
    over = over_all (count_at image sets) zero _ (omega arith) (begins_under _ (begins_all range.count (omega arith)))

    -- ---- what is found

    -- every set in the queue is reached
    pub queued_reached : (t : ℕ) → Among t (reached_from image range).queue → ReachedFrom image range t
    queued_reached t a =
        let (at, u, past) = over in
        let mark = u.sane.met a.place a.inside in
        subst (ReachedFrom image range) a.found (reached_right (u.right _ mark))

    -- every set that is reached is in the queue
    pub reached_queued : (t : ℕ) → ReachedFrom image range t → Among t (reached_from image range).queue
    reached_queued t r = go r.reaches
      where
        go : {t : ℕ} → Reaches image r.start t → Among t (reached_from image range).queue
        go itself = let (at, u, past) = over in u.sane.queued _ (u.starts _ r.starts)
        go (onward {u = v} q l) =
            let (at, u, past) = over in
            let a = go q in
            let inside = a.inside in
            let mark = u.done a.place (omega arith) v (subst (λ (x : ℕ). Leads image x v) (sym a.found) l) in
            u.sane.queued v (λ z. led_differs (sym mark ∙ z))

    -- a mark is `led` exactly if a reached set leads there
    pub marked_led : (t : ℕ) → mark_of image (reached_from image range) t ≡ led → LedFrom image range t
    marked_led t e =
        let (at, u, past) = over in
        told (u.right t (λ z. led_differs (sym e ∙ z)))
      where
        told : Right t (mark_of image (reached_from image range) t) → LedFrom image range t
        told (at_start_lem b s) = let no : led ≡ begun = sym e ∙ b in absurd (omega arith)
        told (by_lead b l) = l

    pub led_marked : (t : ℕ) → LedFrom image range t → mark_of image (reached_from image range) t ≡ led
    led_marked t l =
        let (at, u, past) = over in
        let a = reached_queued l.via l.reached in
        let inside = a.inside in
        u.done a.place (omega arith) t (subst (λ (x : ℕ). Leads image x t) (sym a.found) l.leads)

  -- ---- what leads to a fragment's set is a spread of it

  -- the row of a selection that stands in a set
  pub stands_row : (r s : ℕ) → StandsIn image r s → r < count_at image selections
  stands_row r s i =
      let below : r < (set_selections image s).first + (set_selections image s).count = stands_below i in
      let ends = (good.set s i.known).within.ends in
      omega arith

  -- a selection that is no spread, and leads somewhere, owns that set
  pub owns : (r : ℕ) → r < count_at image selections → (selection_kind image r ≡ spread → ⊥) → selection_target image r < count_at image sets → GoodOwned image r
  owns r h n known =
      let few = few_sets in
      let row = good.selection r h in
      let kind : selection_kind image r ≤ inline = row.kind in
      elim (ℕ_discrete (selection_kind image r) field) [
        | yes p ↦ (row.field_row p).owned (λ e. omega arith)
        | no q ↦ row.inline_owned (omega arith)
      ]

  pub spread_leads : (s f : ℕ) → SpreadsIn image s f → f < count_at image fragments → Leads image s (fragment_set image f)
  spread_leads s f i known =
      record {
        row = i.row;
        stands = i.stands;
        below = below_spread image i.row i.kind ∙ ap (fragment_set image) i.target;
        known = (good.fragment f known).set;
      }

  pub leads_spread : (s f : ℕ) → f < count_at image fragments → Leads image s (fragment_set image f) → SpreadsIn image s f
  leads_spread s f known l =
      let r = l.row in
      let row = stands_row r s l.stands in
      let number : fragment_set image f ≡ count_at image operations + f = (good.fragment f known).set_number in
      elim (ℕ_discrete (selection_kind image r) spread) [
        | yes p ↦
            let target = (good.selection r row).spread_target p in
            let number' : fragment_set image (selection_target image r) ≡ count_at image operations + selection_target image r = (good.fragment (selection_target image r) target).set_number in
            let same : fragment_set image (selection_target image r) ≡ fragment_set image f = sym (below_spread image r p) ∙ l.below in
            record { row = r; stands = l.stands; kind = p; target = omega arith }
        | no q ↦
            let same : selection_target image r ≡ fragment_set image f = sym (below_own image r q) ∙ l.below in
            let set = (good.fragment f known).set in
            let own = (owns r row q (omega arith)).own in
            absurd (omega arith)
      ]

  module _ (range : Range) (within : range.first + range.count ≤ count_at image sets) (f : ℕ) (known : f < count_at image fragments) where
    -- a fragment's mark is `led` exactly if the fragment is spread in a reached set
    pub marked_spread : mark_of image (reached_from image range) (fragment_set image f) ≡ led → SpreadFrom image range f
    marked_spread e =
        let l = marked_led range within (fragment_set image f) e in
        record { via = l.via; reached = l.reached; spreads = leads_spread l.via f known l.leads }

    pub spread_marked : SpreadFrom image range f → mark_of image (reached_from image range) (fragment_set image f) ≡ led
    spread_marked s =
        led_marked range within (fragment_set image f) (record { via = s.via; reached = s.reached; leads = spread_leads s.via f s.spreads known })
