-- A list that stands in the words, with the links between its places: what it says, and that it stays. Assumes what `Site` does.
use mathlib.Core.Path.{◌≡◌, refl, sym, ap, ◌∙◌}
use mathlib.Core.Logic.{◌⊎◌, inl, inr}
use mathlib.Core.Bool.{Bool, true, false, cond, not, ◌&&◌, false≢true}
use mathlib.Core.List.{List, [], ◌∷◌}
use Prim.Native.Nat.{ℕ, zero, suc, ◌+◌, ◌-◌, ◌*◌, ◌≤◌, ◌<◌, min}
use native.Mathlib.Omega.{arith}
use lib.Dec.{eqb}
use lib.ListN.{length, get_or}
use Rattle.lists.specs.Part.{Outside}
use Rattle.lists.proofs.Parts.{stores_length}
use Rattle.merge_theory.specs.Lists.{◌∈◌, here, there}
use Rattle.tables.specs.Layout.{selections}
use Rattle.tables.specs.Image.{count_at}
use Rattle.tables.specs.Columns.{object_type, type_kind, response_name}
use Rattle.selection.specs.declared.arena.Arena.{Arena}
use Rattle.selection.specs.declared.arena.Walk as states
use Rattle.lists.specs.declared.Span.{Span}
use Rattle.expand.specs.ImageDocument.{document_by}
use Rattle.lists.specs.Part.{StoredAt}
use Rattle.selection.specs.Classes.{same_parent, Classed, Prepared}
use Rattle.selection.specs.Regions.{Places}
use Rattle.selection.specs.Linking.{class_at, next_at, first_at, Linked, Linkable, Links}
use Rattle.selection.specs.Standing.{names_chain, pairs_chain, Stands, LinkFrame, LinkableBoth, Stood}
use Rattle.selection.specs.Places.{row_in}
use Rattle.selection.specs.declared.groups.Among.TheVariants.{One, Abstract}
use Rattle.selection.specs.Grouping.{segment, has_object_parent, belongs, name_at, parent_at, name_segment, pair_segment, Grounded}
use Rattle.selection.specs.Following.{link_at, Threaded}
use Rattle.selection.specs.Refining.{document, Site, Rows, Kept}
use Rattle.lists.proofs.Parts.{stores_same}
use Rattle.selection.proofs.PlaceLaws.{row_is, seek_cong}
use Rattle.selection.proofs.FollowLaws.{belongs_name, belongs_parent, belongs_others}
use Rattle.selection.proofs.LinkLaws.{linked_frame}

-- ---- classes

-- parents and classes stay where the words in front do
pub classed_kept : {image s s' : List ℕ} → ((k : ℕ) → k < 3 * count_at image selections → get_or s' k 0 ≡ get_or s k 0) → Classed image s → Classed image s'
classed_kept {image} same c =
    let n = count_at image selections in
    record {
      names_below = λ r h. rw (same (count_at image selections + r) (omega arith)) (c.names_below r h);
      names = λ q r h l. rw (same (count_at image selections + q) (omega arith), same (count_at image selections + r) (omega arith)) (c.names q r h l);
      pairs_below = λ r h. rw (same (count_at image selections + count_at image selections + r) (omega arith)) (c.pairs_below r h);
      pairs = λ q r h l.
          rw (same (count_at image selections + count_at image selections + q) (omega arith), same (count_at image selections + count_at image selections + r) (omega arith), same q (omega arith), same r (omega arith))
          (c.pairs q r h l);
    }

pub prepared_kept : {image s s' : List ℕ} → ((k : ℕ) → k < 3 * count_at image selections → get_or s' k 0 ≡ get_or s k 0) → Prepared image s → Prepared image s'
prepared_kept same p = record { parents = λ r h. same r (omega arith) ∙ p.parents r h; classes = classed_kept same p.classes }

-- there is a word for each key
pub heads_low : {image : List ℕ} {arena : Arena} → Places image arena → arena.heads + arena.names < arena.chain
heads_low r = omega (arith, r.names, r.heads, r.chain)

-- the words in front of the marks are those of parents and classes
pub in_front : {image : List ℕ} {arena : Arena} → Places image arena → arena.marks ≡ 3 * count_at image selections
in_front r = omega (arith, r.names, r.pairs, r.marks)

-- ---- both kinds of links

module _ {arena : Arena} {s s₁ s' : List ℕ} {x : Span} (first : Links s s₁ (names_chain arena) x) (second : Links s₁ s' (pairs_chain arena) x) where
  module _ (n : ℕ) (both : LinkableBoth arena n s x) where
    low_links : arena.links + 4 * x.end ≤ arena.store
    low_links = omega (arith, both.pairs.below, both.small)

    -- what the first kind leaves
    spared_first : (k : ℕ) → (k < arena.lasts) ⊎ (arena.lasts + n ≤ k) → ((p : ℕ) → x.start ≤ p → p < x.end → (k ≡ arena.links + 4 * p → ⊥) × (k ≡ arena.links + 4 * p + 1 → ⊥)) → get_or s₁ k 0 ≡ get_or s k 0
    spared_first k aside apart = first.frame n both.names k (record { lasts = aside; links = apart })

    row_stays : (p : ℕ) → x.start ≤ p → p < x.end → get_or s₁ (arena.store + p) 0 ≡ get_or s (arena.store + p) 0
    row_stays p h less = spared_first (arena.store + p) (inr (omega (arith, both.names.before, low_links))) (λ q m l. (λ e. omega (arith, low_links), λ e. omega (arith, low_links)))

    pairs_now : Linkable s₁ n (pairs_chain arena) x
    pairs_now = record {
      rows = λ p h less. rw (row_stays p h less) (both.pairs.rows p h less);
      classes = λ r h. rw (spared_first (arena.pairs + r) (inl (omega (arith, both.pairs.apart))) (λ q m l. (λ e. omega (arith, both.pairs.apart, both.names.before), λ e. omega (arith, both.pairs.apart, both.names.before)))) (both.pairs.classes r h);
      apart = both.pairs.apart;
      before = both.pairs.before;
      below = both.pairs.below;
      inside = omega (arith, both.pairs.inside, first.long);
    }

    spared_second : (k : ℕ) → (k < arena.lasts) ⊎ (arena.lasts + n ≤ k) → ((p : ℕ) → x.start ≤ p → p < x.end → (k ≡ arena.links + 2 + 4 * p → ⊥) × (k ≡ arena.links + 2 + 4 * p + 1 → ⊥)) → get_or s' k 0 ≡ get_or s₁ k 0
    spared_second k aside apart = second.frame n pairs_now k (record { lasts = aside; links = λ p h less. (λ e. (apart p h less).0 (omega (arith, both.small)), λ e. (apart p h less).1 (omega (arith, both.small))) })

    framed_both : LinkFrame arena x.start s s'
    framed_both = record {
      long = second.long ∙ first.long;
      front = λ k h.
          spared_second k (inl h) (λ p m l. (λ e. omega (arith, both.names.before), λ e. omega (arith, both.names.before)))
          ∙ spared_first k (inl h) (λ p m l. (λ e. omega (arith, both.names.before), λ e. omega (arith, both.names.before)));
      links = λ k h less.
          spared_second k (inr (omega (arith, both.heads))) (λ p m l. (λ e. omega arith, λ e. omega arith))
          ∙ spared_first k (inr (omega (arith, both.heads))) (λ p m l. (λ e. omega arith, λ e. omega arith));
      store = λ k h.
          spared_second k (inr (omega (arith, both.names.before, low_links))) (λ p m l. (λ e. omega (arith, low_links), λ e. omega (arith, low_links)))
          ∙ spared_first k (inr (omega (arith, both.names.before, low_links))) (λ p m l. (λ e. omega (arith, low_links), λ e. omega (arith, low_links)));
    }

    names_linked : Linked s' (names_chain arena) x
    names_linked = linked_frame
        (λ p h less. spared_second (arena.store + p) (inr (omega (arith, both.names.before, low_links))) (λ q m l. (λ e. omega (arith, low_links), λ e. omega (arith, low_links))))
        (λ p h less.
        let row : get_or s₁ (arena.store + p) 0 < n = rw (row_stays p h less) (both.names.rows p h less) in
        spared_second (arena.names + get_or s₁ (arena.store + p) 0) (inl (omega (arith, both.names.apart))) (λ q m l. (λ e. omega (arith, both.names.apart, both.names.before), λ e. omega (arith, both.names.apart, both.names.before))))
        (λ p h less. (
          spared_second (arena.links + 4 * p) (inr (omega (arith, both.names.before))) (λ q m l. (λ e. omega arith, λ e. omega arith)),
          spared_second (arena.links + 4 * p + 1) (inr (omega (arith, both.names.before))) (λ q m l. (λ e. omega arith, λ e. omega arith)),
        ))
        (first.linked n both.names)

  pub both_linked : (isShape : Bool) → Stood arena isShape s s' x
  both_linked isShape = record {
    long = second.long ∙ first.long;
    names = names_linked;
    pairs = λ n both _. second.linked n (pairs_now n both);
    frame = framed_both;
  }

-- by names alone
pub names_alone : {arena : Arena} {s s' : List ℕ} {x : Span} → Links s s' (names_chain arena) x → (isShape : Bool) → isShape ≡ true → Stood arena isShape s s' x
names_alone {arena} {s} {s'} {x} first isShape is = record {
  long = first.long;
  names = λ n both. first.linked n both.names;
  pairs = λ n both not-shape. absurd (false≢true (sym not-shape ∙ is));
  frame = λ n both.
      let low = both.pairs.below in
      let small = both.small in
      record {
        long = first.long;
        front = λ k h. first.frame n both.names k (record { lasts = inl h; links = λ p m l. (λ e. omega (arith, both.names.before), λ e. omega (arith, both.names.before)) });
        links = λ k h less. first.frame n both.names k (record { lasts = inr (omega (arith, both.heads)); links = λ p m l. (λ e. omega arith, λ e. omega arith) });
        store = λ k h. first.frame n both.names k (record { lasts = inr (omega (arith, both.names.before, low, small)); links = λ p m l. (λ e. omega (arith, low, small), λ e. omega (arith, low, small)) });
      };
}

-- ---- a list that stands in the words

pub get_or_in : (l : List ℕ) (i : ℕ) → i < length l → get_or l i 0 ∈ l
get_or_in [] i h = absurd (omega arith)
get_or_in (x ∷ xs) zero h = here refl
get_or_in (x ∷ xs) (suc i) h = there (get_or_in xs i (omega arith))

-- a field of a place's class is in its segment
pair_belongs : (image s : List ℕ) (store p row : ℕ)
    → (eqb (response_name image row) (name_at image s store p) && same_parent image (get_or s row 0) (parent_at image s store p)) ≡ belongs image s (pair_segment image s store p) row
unfolding same_parent
pair_belongs image s store p row = go (has_object_parent image s (row_in s store p))
  where
    go : (b : Bool) → (eqb (response_name image row) (name_at image s store p) && cond b (eqb (get_or s row 0) (parent_at image s store p)) (not (eqb (type_kind image (get_or s row 0)) object_type)))
        ≡ belongs image s (cond b (segment (name_at image s store p) (One (parent_at image s store p))) (segment (name_at image s store p) Abstract)) row
    go true = sym (belongs_parent image s (name_at image s store p) (parent_at image s store p) row)
    go false = sym (belongs_others image s (name_at image s store p) row)

module _ {image : List ℕ} {arena : Arena} {work op : ℕ} {s : List ℕ} {z : states.Walk} (site : Site image arena work op s z) where
  pub row_in_lem : {x : Span} {l : List ℕ} → StoredAt s arena.store x l → (p : ℕ) → x.start ≤ p → p < x.end → row_in s arena.store p ∈ l
  row_in_lem {x} {l} stands p low less = rw (row_is stands p low less) (get_or_in l (p - x.start) (omega (arith, stores_length stands.rows)))

  pub grounded : {x : Span} {l : List ℕ} → Rows image arena work op l → StoredAt s arena.store x l → Grounded (document image) image s arena.store x l
  unfolding document_by
  grounded rows stands = record {
    list = stands;
    names = λ f. refl;
    objects = λ t. refl;
    parents = λ p low less. site.parents _ (rows.inside _ (row_in_lem stands p low less));
  }

  module _ {isShape : Bool} {x : Span} {l : List ℕ} (rows : Rows image arena work op l) (stands : Stands arena isShape s x l) where
    row_below : (p : ℕ) → x.start ≤ p → p < x.end → row_in s arena.store p < count_at image selections
    row_below p low less = rows.inside _ (row_in_lem stands.rows p low less)

    name_class_lem : (p q : ℕ) → x.start ≤ p → p < x.end → x.start ≤ q → q < x.end
        → eqb (class_at s (names_chain arena) q) (class_at s (names_chain arena) p) ≡ belongs image s (name_segment image s arena.store p) (row_in s arena.store q)
    name_class_lem p q low less h l =
        rw site.regions.names (site.classes.names _ _ (row_below q h l) (row_below p low less) ∙ sym (belongs_name image s (name_at image s arena.store p) (row_in s arena.store q)))

    pair_class_lem : (p q : ℕ) → x.start ≤ p → p < x.end → x.start ≤ q → q < x.end
        → eqb (class_at s (pairs_chain arena) q) (class_at s (pairs_chain arena) p) ≡ belongs image s (pair_segment image s arena.store p) (row_in s arena.store q)
    pair_class_lem p q low less h l =
        rw (site.regions.pairs, site.regions.names) (site.classes.pairs _ _ (row_below q h l) (row_below p low less) ∙ pair_belongs image s arena.store p (row_in s arena.store q))

    -- the words of links, column by column
    column_0 : (p : ℕ) → link_at s arena p 0 ≡ next_at s (names_chain arena) p
    column_0 p = ap (λ k. get_or s k 0) (let e : arena.links + 4 * p + 0 ≡ arena.links + 4 * p = omega arith in e)

    column_2 : (p : ℕ) → link_at s arena p 2 ≡ next_at s (pairs_chain arena) p
    column_2 p = ap (λ k. get_or s k 0) (let e : arena.links + 4 * p + 2 ≡ min arena.links 4294967293 + 2 + 4 * p = omega (arith, site.regions.small) in e)

    column_3 : (p : ℕ) → link_at s arena p 3 ≡ first_at s (pairs_chain arena) p
    column_3 p = ap (λ k. get_or s k 0) (let e : arena.links + 4 * p + 3 ≡ min arena.links 4294967293 + 2 + 4 * p + 1 = omega (arith, site.regions.small) in e)

    -- its links lead where searches end
    pub threaded : Threaded image s arena isShape x
    threaded = record {
      next_name = λ p low less. column_0 p ∙ stands.names.next p low less ∙ seek_cong _ _ (p + 1) x.end (λ q h l. name_class_lem p q low less (omega arith) l);
      first_name = λ p low less. stands.names.first p low less ∙ seek_cong _ _ x.start p (λ q h l. name_class_lem p q low less h (omega arith));
      next_pair = λ by-pairs p low less. column_2 p ∙ (stands.pairs by-pairs).next p low less ∙ seek_cong _ _ (p + 1) x.end (λ q h l. pair_class_lem p q low less (omega arith) l);
      first_pair = λ by-pairs p low less. column_3 p ∙ (stands.pairs by-pairs).first p low less ∙ seek_cong _ _ x.start p (λ q h l. pair_class_lem p q low less h (omega arith));
    }

    -- it stands where the words in front, its links and its rows stay
    pub stands_same : {s' : List ℕ} → x.start ≤ x.end → length s' ≡ length s → ((k : ℕ) → k < arena.marks → get_or s' k 0 ≡ get_or s k 0)
        → ((k : ℕ) → arena.links ≤ k → k < arena.links + 4 * x.end → get_or s' k 0 ≡ get_or s k 0)
        → ((k : ℕ) → arena.store ≤ k → k < arena.store + x.end → get_or s' k 0 ≡ get_or s k 0) → Stands arena isShape s' x l
    stands_same {s'} ordered long front links store =
        let r = site.regions in
        let row : (p : ℕ) → x.start ≤ p → p < x.end → get_or s' (arena.store + p) 0 ≡ get_or s (arena.store + p) 0 = λ p low less. store (arena.store + p) (omega arith) (omega arith) in
        record {
          rows = record { rows = stores_same long (λ k ge less. store k (omega arith) (omega arith)) stands.rows.rows };
          names = linked_frame row
              (λ p low less. front _ (omega (arith, row_below p low less, r.names, r.pairs, r.marks)))
              (λ p low less. (links (arena.links + 4 * p) (omega arith) (omega arith), links (arena.links + 4 * p + 1) (omega arith) (omega arith)))
              stands.names;
          pairs = λ by-pairs. linked_frame row
              (λ p low less. front _ (omega (arith, row_below p low less, r.names, r.pairs, r.marks)))
              (λ p low less. (links _ (omega (arith, r.small)) (omega (arith, r.small)), links _ (omega (arith, r.small)) (omega (arith, r.small))))
              (stands.pairs by-pairs);
        }

  -- only words of the queue have changed
  pub site_queue : {s' : List ℕ} → Outside arena.queue (arena.lasts - arena.queue) s s' → Site image arena work op s' z
  site_queue {s'} o =
      let r = site.regions in
      record {
        good = site.good;
        regions = site.regions;
        chained = site.chained;
        spread = site.spread;
        sound = site.sound;
        parents = λ k h. o.below k (omega (arith, r.names, r.pairs, r.marks, r.queue)) ∙ site.parents k h;
        classes = classed_kept (λ k h. o.below k (omega (arith, in_front r, r.queue))) site.classes;
        room = rw o.long site.room;
        marks = λ j h. rw (o.below (arena.marks + j) (omega (arith, r.queue))) (site.marks j h);
        within = site.within;
      }

  pub stands_queue : {isShape : Bool} {s' : List ℕ} {x : Span} {l : List ℕ} → Outside arena.queue (arena.lasts - arena.queue) s s' → Rows image arena work op l → x.start ≤ x.end
      → Stands arena isShape s x l → Stands arena isShape s' x l
  stands_queue o rows ordered stands =
      let r = site.regions in
      stands_same rows stands ordered o.long (λ k h. o.below k (omega (arith, r.queue))) (λ k h less. o.above k (omega (arith, r.lasts, r.heads, r.links)))
      (λ k h less. o.above k (omega (arith, r.lasts, r.heads, r.links, r.store)))

  -- a list that is known stays
  pub stands_kept : {isShape : Bool} {s' : List ℕ} {z' : states.Walk} {x : Span} {l : List ℕ} → Kept image arena work op s s' z z' → Rows image arena work op l → Stands arena isShape s x l → x.start ≤ x.end → x.end ≤ z.known
      → Stands arena isShape s' x l
  stands_kept kept rows stands ordered stored =
      stands_same rows stands ordered kept.long kept.parents (λ k h less. kept.links k h (omega arith)) (λ k h less. kept.known k h (omega arith))
