-- The words that an operation is lent: in front those of the rules on variables, behind them the walk's. Assumes nothing.
use Prim.Native.Nat.{ℕ, ◌+◌, ◌-◌, ◌<◌, ◌≤◌}
use mathlib.Core.Path.{◌≡◌, refl, sym, ap, ◌∙◌}
use mathlib.Core.List.{List, ◌++◌, append-nil}
use mathlib.Core.Option.{some, none}
use native.Mathlib.Omega.{arith}
use lib.ListN.{length, get_or, take, drop, length-append, length-drop, drop_of_length-le}
use lib.Seq.{take_all, length-take-le, get_or-drop, get_or-append-add}
use Rattle.lists.specs.Part.{Outside}
use Rattle.tables.specs.Layout.{operations}
use Rattle.tables.specs.Image.{count_at}
use Rattle.variable.specs.Uses.{uses_words}
use Rattle.variable.specs.Verdict.{Usage, Shown, usage_shows, usage_fault, Judged}
use Rattle.selection.specs.declared.arena.Reply.{Reply}
use Rattle.selection.specs.Regions.{arena_of}
use Rattle.selection.specs.Classes.{Prepared, Prepares}
use Rattle.selection.specs.Validating.{Checkable, Validates}
use Rattle.selection.proofs.RegionLaws.{places, links_fit}
use Rattle.selection.proofs.StandLaws.{prepared_kept, in_front}
use Rattle.query.specs.Reply.{answer}
use Rattle.query.proofs.Soundness.{operation_sound}
use Rattle.std.specs.Prelude.{Ok, Err}
use Rattle.variable.specs.declared.rules.VariableError.{VariableError}
use Rattle.merge_theory.specs.Walk.{check}
use Rattle.query.proofs.OneOperation.{passing}
use Rattle.query.specs.Operation.{operation_reply, Ready, Lent, Checked}

-- `&mut s[a..]`, as it is lent
pub behind : (s : List ℕ) (a : ℕ) → take (length s - a) (drop a s) ≡ drop a s
behind s a = take_all (length s - a) (drop a s) (omega (arith, length-drop a s))

-- and back at ys
pub behind_back : (s : List ℕ) (a : ℕ) (ys : List ℕ) → take a s ++ (ys ++ drop (length s - a) (drop a s)) ≡ take a s ++ ys
behind_back s a ys = let all : length (drop a s) ≤ length s - a = omega (arith, length-drop a s) in rw (drop_of_length-le (drop a s) {i = length s - a} all, append-nil ys) refl

module _ (s : List ℕ) (a : ℕ) (room : a ≤ length s) (ys : List ℕ) where
  pub long_again : length ys ≡ length (drop a s) → length (take a s ++ ys) ≡ length s
  long_again h = omega (arith, length-append (take a s) ys, length-take-le a s room, length-drop a s)

  pub there_again : (k : ℕ) → get_or (take a s ++ ys) (a + k) 0 ≡ get_or ys k 0
  there_again k = let place : a + k ≡ length (take a s) + k = ap (λ (n : ℕ). n + k) (sym (length-take-le a s room)) in rw place (get_or-append-add (take a s) ys k 0)

-- where no variable is at fault, nothing is shown
pub shows_nothing : (u : Usage) → ((error : VariableError) → u ≡ Err error → ⊥) → usage_shows u ≡ none
shows_nothing (Ok _) right = refl
shows_nothing (Err error) right = absurd (right error refl)

module _ {image : List ℕ} {work : ℕ} where
  pub ready_as_long : {s s' : List ℕ} → length s' ≡ length s → Ready image work s → Ready image work s'
  ready_as_long h r = record { good = r.good; fragments = r.fragments; limit = r.limit; room = omega (arith, r.room) }

  -- the rules on variables leave the walk's words as they are
  pub lent_kept : {s s' : List ℕ} → Outside 0 (uses_words image) s s' → Lent image work s → Lent image work s'
  lent_kept frame lent = record {
    ready = ready_as_long frame.long lent.ready;
    prepared = prepared_kept (λ k h. get_or-drop (uses_words image) _ k 0 ∙ frame.above (uses_words image + k) (omega arith) ∙ sym (get_or-drop (uses_words image) _ k 0)) lent.prepared;
  }

  module _ {s s' : List ℕ} {i : ℕ} {u : Usage} (lent : Lent image work s) (judged : Judged image i s s' u) where
    room : uses_words image ≤ length s
    room = omega (arith, lent.ready.room)

    pub by_variables : (used : ℕ) (r : Shown) → usage_shows u ≡ some r → Checked image work s s' i used (answer r.kind i r.a 0 used)
    unfolding operation_reply
    by_variables used r wrong =
        let shown : some r ≡ usage_fault image i = sym wrong ∙ judged.shows room in
        record { long = judged.frame.long; lent = lent_kept judged.frame lent; says = rw (← shown) refl }

    pub by_walk : {used front : ℕ} {r : Reply} (ys : List ℕ) → usage_shows u ≡ none → i < count_at image operations → used ≤ work → front ≡ uses_words image
        → Validates image work i used (take (length s' - front) (drop front s')) ys r → Checked image work s (take front s' ++ (ys ++ drop (length s' - front) (drop front s'))) i used r
    unfolding operation_reply
    by_walk {used} {front} {r} ys good own within e walked =
        let shown : none ≡ usage_fault image i = sym good ∙ judged.shows room in
        let next = lent_kept judged.frame lent in
        let ready = next.ready in
        let fits : front ≤ length s' = omega (arith, ready.room) in
        let walked' = rw (behind s' front) at walked in
        let whole = long_again s' front fits ys walked'.long in
        let there : Prepared image (drop front s') = rw e next.prepared in
        let may : Checkable image work i used (drop front s') = record {
          good = ready.good;
          sound = operation_sound ready.good i own ready.fragments;
          row = own;
          prepared = there;
          room = omega (arith, ready.room, length-drop front s');
          small = ready.limit;
          within = within;
        } in
        let told = walked'.replies may in
        rw (behind_back s' front ys) record {
          long = whole ∙ judged.frame.long;
          lent = record {
            ready = ready_as_long whole ready;
            prepared = rw (← e)
                (prepared_kept
                (λ k h. get_or-drop front (take front s' ++ ys) k 0 ∙ there_again s' front fits ys k ∙ (walked'.frame may).below k (omega (arith, in_front (places {image = image} {arena = arena_of image work} work ready.good refl))))
                there);
          };
          says = rw (← shown) told;
        }

  -- an operation that passes is told by what is used by then
  pub passed : {s s' : List ℕ} {i used : ℕ} {r : Reply} → Checked image work s s' i used r → r.kind ≡ 0 → Checked image work s s' i used (answer 0 i 0 0 r.used)
  passed {s} {s'} {i} {used} {r} checked zero =
      let told = passing check image work i used (sym (ap (λ (r : Reply). r.kind) checked.says) ∙ zero) in
      record { long = checked.long; lent = checked.lent; says = ap (λ (r : Reply). answer 0 i 0 0 r.used) checked.says ∙ sym told }

  -- parents and classes are written where the walk of each operation reads them
  pub lent_written : {s : List ℕ} {front : ℕ} (ys : List ℕ) → Ready image work s → front ≡ uses_words image → Prepares image (take (length s - front) (drop front s)) ys
      → Lent image work (take front s ++ (ys ++ drop (length s - front) (drop front s)))
  lent_written {s} {front} ys ready e prepares =
      let fits : front ≤ length s = omega (arith, ready.room) in
      let prepares' = rw (behind s front) at prepares in
      let r = places {image = image} {arena = arena_of image work} work ready.good refl in
      let fit = links_fit {image = image} {arena = arena_of image work} work ready.good refl ready.limit in
      let written = prepares'.prepared ready.good (omega (arith, ready.room, length-drop front s, in_front r, r.queue, r.lasts, r.heads, r.links, fit)) in
      rw (behind_back s front ys) record {
        ready = ready_as_long (long_again s front fits ys prepares'.long) ready;
        prepared = rw (← e) (prepared_kept (λ k h. get_or-drop front (take front s ++ ys) k 0 ∙ there_again s front fits ys k) written);
      }
