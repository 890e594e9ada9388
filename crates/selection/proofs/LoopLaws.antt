-- The loop of a pass over the parts of a list, whichever the pass: its turns, and its ends. Assumes nothing.
use mathlib.Core.Path.{◌≡◌, refl, sym, ap, ◌∙◌, subst}
use mathlib.Core.Bool.{Bool, false}
use mathlib.Core.List.{List, [], ◌∷◌}
use Prim.Native.Nat.{ℕ, suc, ◌≤◌}
use native.Mathlib.Omega.{arith}
use lib.ListN.{length}
use Rattle.merge_theory.specs.Walk.{Pass}
use Rattle.selection.specs.declared.arena.Arena.{Arena}
use Rattle.selection.specs.declared.arena.Walk as states
use Rattle.selection.specs.declared.arena.Reply.{Reply}
use Rattle.lists.specs.declared.Span.{Span}
use Rattle.selection.specs.declared.groups.Part.{Part}
use Rattle.selection.specs.declared.walk.Met.{Met}
use Rattle.selection.specs.Standing.{Stands}
use Rattle.selection.specs.Grouping.{PartAt}
use Rattle.std.specs.Prelude.{Some, is_some}
use Rattle.selection.specs.Refining.{goes_deeper, list_of, span_in, paid_for, document, pass_of, Ample, Site, Rows, Refines, walk_list, one_part, MeetsPart, WalksList}
use Rattle.selection.proofs.StandLaws.{stands_kept}
use Rattle.selection.proofs.RefineLaws.{kept_trans, kept_none, by, refines_stopped}
use Rattle.selection.proofs.PassLaws.{walk_rest, Progress, progress_turn, progress_stop, progress_end, progress_first}

-- the walk of a list, and of a part, for an operation
abbrev pub WalksAs : List ℕ → Arena → ℕ → ℕ → List ℕ → List ℕ → states.Walk → Span → Bool → ℕ → states.Walk → Type 0
WalksAs image arena work op s s' z x isShape levels z' =
    (l : List ℕ) → Site image arena work op s z → Stands arena isShape s x l → x.start ≤ x.end → x.end ≤ z.known → Rows image arena work op l
    → Refines image arena work op (walk_list image arena work op (pass_of image isShape) levels l) s s' z z'

abbrev StepsAs : List ℕ → Arena → ℕ → ℕ → List ℕ → List ℕ → states.Walk → Part → Bool → ℕ → states.Walk → Type 0
StepsAs image arena work op s s' z part isShape levels z' =
    (l rows : List ℕ) → Site image arena work op s z → Stands arena isShape s part.list l → part.list.start ≤ part.list.end
    → Rows image arena work op l → PartAt (document image) isShape s arena.store l part rows → Rows image arena work op rows
    → Refines image arena work op (one_part image arena work op (pass_of image isShape) levels rows) s s' z z'

-- a part and all that is below it
pub record Stepped (image : List ℕ) (arena : Arena) (work : ℕ) (s s' : List ℕ) (z : states.Walk) (part : Part) (isShape : Bool) (levels : ℕ) (z' : states.Walk) : Type 0 where
  pub long : length s' ≡ length s
  pub operation : z'.reply.operation ≡ z.reply.operation
  pub ample : z'.reply.kind ≡ 0 → Ample work 0 z'
  pub refines : (l rows : List ℕ) → Site image arena work z.reply.operation s z → Stands arena isShape s part.list l → part.list.start ≤ part.list.end
      → Rows image arena work z.reply.operation l → PartAt (document image) isShape s arena.store l part rows → Rows image arena work z.reply.operation rows
      → Refines image arena work z.reply.operation (one_part image arena work z.reply.operation (pass_of image isShape) levels rows) s s' z z'

module _ {image : List ℕ} {arena : Arena} {work : ℕ} {s s₁ : List ℕ} {z : states.Walk} {part : Part} {isShape : Bool} {m : Met} (long₁ : length s₁ ≡ length s)
    (met : MeetsPart image arena work s s₁ z part isShape m) where
  -- nothing is deeper
  pub stepped_flat : (levels : ℕ) → goes_deeper m ≡ false → Stepped image arena work s s₁ z part isShape levels m.walk
  stepped_flat levels flat = record {
    long = long₁;
    operation = met.operation;
    ample = met.ample;
    refines = λ l rows site stands ordered listed p fields. (met.meets l rows site stands ordered listed p fields).done flat levels;
  }

  -- a list was entered, and walked
  pub stepped_deeper : {x : Span} {levels : ℕ} {s' : List ℕ} {z' : states.Walk} → m.below ≡ Some x → WalksList image arena work s₁ s' m.walk x isShape levels z'
      → Stepped image arena work s s' z part isShape levels z'
  stepped_deeper {x} {levels} {s'} {z'} is walked = record {
    long = walked.long ∙ long₁;
    operation = walked.operation ∙ met.operation;
    ample = walked.ample;
    refines = λ l rows site stands ordered listed p fields.
        let e = (met.meets l rows site stands ordered listed p fields).entered (ap is_some is) in
        let r = walks e.list e.site e.stands e.ordered e.stored e.rows in
        record {
          tells = λ y h. e.same levels y h s' z' (r.tells (paid_for e.list y) (e.goes y h));
          site = r.site;
          kept = kept_trans e.kept r.kept;
        };
  }
    where
      walks : WalksAs image arena work z.reply.operation s₁ s' m.walk (list_of m) isShape levels z'
      walks = subst (λ (op : ℕ). WalksAs image arena work op s₁ s' m.walk (list_of m) isShape levels z') met.operation (rw (ap span_in is) walked.walks)

pub stepped_as : {image : List ℕ} {arena : Arena} {work : ℕ} {s s' s'' : List ℕ} {z : states.Walk} {part : Part} {isShape : Bool} {levels : ℕ} {z' z'' : states.Walk} → s'' ≡ s' → z'' ≡ z'
    → Stepped image arena work s s' z part isShape levels z' → Stepped image arena work s s'' z part isShape levels z''
stepped_as e f r = rw (e, f) r

-- with levels to go, a list's walk is that of its parts
whole_list : (image : List ℕ) (arena : Arena) (work op : ℕ) (P : Pass) (level levels : ℕ) (l : List ℕ) {s s' : List ℕ} {z z' : states.Walk} → level ≡ suc levels
    → Refines image arena work op (walk_rest image arena work op P levels (P.parts l)) s s' z z' → Refines image arena work op (walk_list image arena work op P level l) s s' z z'
unfolding walk_list
whole_list image arena work op P level levels l is r = rw is (by (walk_list image arena work op P (suc levels) l) (λ y h. refl) r)

-- no level is left
pub no_level : (image : List ℕ) (arena : Arena) (work : ℕ) (s : List ℕ) (z : states.Walk) (x : Span) (isShape : Bool) (level : ℕ) → level ≡ 0 → Ample work 0 z
    → WalksList image arena work s s z x isShape level z
unfolding walk_list
no_level image arena work s z x isShape level is ample = rw is (record {
  long = refl;
  operation = refl;
  ample = λ _. ample;
  walks = λ l site stands ordered stored listed. record { tells = λ y h. tt; site = λ _. site; kept = kept_none s z z (omega arith) };
})

-- where the walk stopped, its state but for the reply does not matter
pub walks_stopped : {image : List ℕ} {arena : Arena} {work : ℕ} {s s' : List ℕ} {z z' z'' : states.Walk} {x : Span} {isShape : Bool} {level : ℕ} → (z'.reply.kind ≡ 0 → ⊥) → z''.reply ≡ z'.reply
    → z.known ≤ z''.known → WalksList image arena work s s' z x isShape level z' → WalksList image arena work s s' z x isShape level z''
walks_stopped stop same grows w = record {
  long = w.long;
  operation = ap (λ (r : Reply). r.operation) same ∙ w.operation;
  ample = λ go. absurd (stop (ap (λ (r : Reply). r.kind) (sym same) ∙ go));
  walks = λ l site stands ordered stored listed. refines_stopped stop same grows (w.walks l site stands ordered stored listed);
}

-- the loop: what is left of a list's parts, said by `Left`
pub record PassLoop (image : List ℕ) (arena : Arena) (work : ℕ) (s₀ s : List ℕ) (z₀ z : states.Walk) (x : Span) (isShape : Bool) (levels : ℕ) (Left : List ℕ → List (List ℕ) → Type 0) : Type 0 where
  pub long : length s ≡ length s₀
  pub operation : z.reply.operation ≡ z₀.reply.operation
  pub ample : z.reply.kind ≡ 0 → Ample work 0 z
  pub walks : (l : List ℕ) → Site image arena work z₀.reply.operation s₀ z₀ → Stands arena isShape s₀ x l → x.start ≤ x.end → x.end ≤ z₀.known → Rows image arena work z₀.reply.operation l
      → (rest : List (List ℕ)) × Left l rest × Progress image arena work z₀.reply.operation (pass_of image isShape) levels ((pass_of image isShape).parts l) s₀ s z₀ z rest

-- a part is walked, and the rest are left
pub record Opens (image : List ℕ) (arena : Arena) (work op : ℕ) (isShape : Bool) (s s' : List ℕ) (part : Part) (l : List ℕ) (rest : List (List ℕ)) (Next : List ℕ → List (List ℕ) → Type 0) : Type 0 where
  pub rows : List ℕ
  pub others : List (List ℕ)
  pub is : rest ≡ rows ∷ others
  pub at : PartAt (document image) isShape s arena.store l part rows
  pub fields : Rows image arena work op rows
  pub next : Next l others

module _ {image : List ℕ} {arena : Arena} {work : ℕ} {s₀ s : List ℕ} {z₀ z : states.Walk} {x : Span} {isShape : Bool} {levels : ℕ} {Left : List ℕ → List (List ℕ) → Type 0} where
  pub loop_turn : (Next : List ℕ → List (List ℕ) → Type 0) {s' : List ℕ} {z' : states.Walk} {part : Part} → PassLoop image arena work s₀ s z₀ z x isShape levels Left → Ample work 0 z → part.list ≡ x
      → Stepped image arena work s s' z part isShape levels z'
      → ((l : List ℕ) (rest : List (List ℕ)) → Site image arena work z₀.reply.operation s z → Stands arena isShape s x l → x.start ≤ x.end → x.end ≤ z.known
      → Rows image arena work z₀.reply.operation l → Left l rest → Opens image arena work z₀.reply.operation isShape s s' part l rest Next)
      → PassLoop image arena work s₀ s' z₀ z' x isShape levels Next
  loop_turn Next {s'} {z'} {part} loop ample is step opens = record {
    long = step.long ∙ loop.long;
    operation = step.operation ∙ loop.operation;
    ample = step.ample;
    walks = λ l site stands ordered stored listed.
        let (rest, left, g) = loop.walks l site stands ordered stored listed in
        let kept = g.refines.kept in
        let stands_now = stands_kept site kept listed stands ordered stored in
        let stored-now : x.end ≤ z.known = omega (arith, stored, kept.grows) in
        let o = opens l rest (g.refines.site ample.going) stands_now ordered stored-now listed left in
        let r = steps l o.rows (g.refines.site ample.going) (rw is stands_now) (rw is ordered) listed o.at o.fields in
        (o.others, o.next, progress_turn o.rows o.others (rw o.is at g) ample.going r);
  }
    where
      steps : StepsAs image arena work z₀.reply.operation s s' z part isShape levels z'
      steps = subst (λ (op : ℕ). StepsAs image arena work op s s' z part isShape levels z') loop.operation step.refines

  pub loop_stop : PassLoop image arena work s₀ s z₀ z x isShape levels Left → (level : ℕ) → level ≡ suc levels → (z.reply.kind ≡ 0 → ⊥) → WalksList image arena work s₀ s z₀ x isShape level z
  loop_stop loop level is stop = record {
    long = loop.long;
    operation = loop.operation;
    ample = loop.ample;
    walks = λ l site stands ordered stored listed.
        let (rest, left, g) = loop.walks l site stands ordered stored listed in
        whole_list image arena work z₀.reply.operation (pass_of image isShape) level levels l is (progress_stop rest g stop);
  }

  pub loop_end : PassLoop image arena work s₀ s z₀ z x isShape levels Left → (level : ℕ) → level ≡ suc levels → ((l : List ℕ) (rest : List (List ℕ)) → Left l rest → rest ≡ [])
      → WalksList image arena work s₀ s z₀ x isShape level z
  loop_end loop level is none_left = record {
    long = loop.long;
    operation = loop.operation;
    ample = loop.ample;
    walks = λ l site stands ordered stored listed.
        let (rest, left, g) = loop.walks l site stands ordered stored listed in
        whole_list image arena work z₀.reply.operation (pass_of image isShape) level levels l is (progress_end (rw (none_left l rest left) at g));
  }

  -- what is left, said in another way where the walk goes on
  pub loop_move : (Next : List ℕ → List (List ℕ) → Type 0) → PassLoop image arena work s₀ s z₀ z x isShape levels Left → z.reply.kind ≡ 0
      → ((l : List ℕ) (rest : List (List ℕ)) → Site image arena work z₀.reply.operation s z → Stands arena isShape s x l → Rows image arena work z₀.reply.operation l → Left l rest → Next l rest)
      → PassLoop image arena work s₀ s z₀ z x isShape levels Next
  loop_move Next loop go moves = record {
    long = loop.long;
    operation = loop.operation;
    ample = loop.ample;
    walks = λ l site stands ordered stored listed.
        let (rest, left, g) = loop.walks l site stands ordered stored listed in
        (rest, moves l rest (g.refines.site go) (stands_kept site g.refines.kept listed stands ordered stored) listed left, g);
  }

-- the loop begins
pub loop_first : {image : List ℕ} {arena : Arena} {work : ℕ} {s : List ℕ} {z : states.Walk} (x : Span) (isShape : Bool) (levels : ℕ) (Left : List ℕ → List (List ℕ) → Type 0) → Ample work 0 z
    → ((l : List ℕ) → Left l ((pass_of image isShape).parts l)) → PassLoop image arena work s s z z x isShape levels Left
loop_first {image} x isShape levels Left ample left = record {
  long = refl;
  operation = refl;
  ample = λ _. ample;
  walks = λ l site stands ordered stored listed. ((pass_of image isShape).parts l, left l, progress_first (pass_of image isShape) levels ((pass_of image isShape).parts l) site);
}
