-- How far an expansion has come: what stands in the words where some rows are done, and what it is to do more. Assumes nothing.
--     Task image area                   an expansion that is under way
--     Shows image area t rows s x       these rows are done
--     Steps image area rows s s' x x'   these rows are done next, whatever was done before
use Rattle.std.specs.Prelude.{◌≡◌, Bool, List, [], ◌++◌, ℕ, ◌+◌, ◌-◌, ◌≤◌, ◌<◌, eqb, length, get_or}
use Rattle.lists.specs.Part.{Stores}
use Rattle.merge_theory.specs.Lists.{Every, filter, is_in}
use Rattle.merge_theory.specs.Document.{Document, is_field}
use Rattle.merge_theory.specs.Expand.{queued, marked}
use Rattle.tables.specs.declared.Range.{Range}
use Rattle.tables.specs.Layout.{operations, fragments, selections}
use Rattle.tables.specs.Image.{count_at}
use Rattle.tables.specs.Good.{Good}
use Rattle.expand.specs.declared.Area.{Area}
use Rattle.expand.specs.declared.Expansion.{Expansion}
use Rattle.expand.specs.ImageDocument.{document_by}
use Rattle.expand.specs.Expanding.{AreaFor}
use Rattle.expand.specs.Expanding.{Once, StartSet, Fresh, MarksBelow, Framed}

module _ (image : List ℕ) (area : Area) where
  -- an expansion that is under way: what it started from, where its list begins, and its number
  pub record Task : Type 0 where
    pub same_shape : ℕ → ℕ → Bool
    pub same_arguments : Range → Range → Bool
    pub starts : List ℕ
    pub from : ℕ
    pub number : ℕ
    pub good : Good image
    pub regions : AreaFor image area
    pub allowed : Every (StartSet image) starts
    pub once : Once starts
    pub small : from + count_at image selections ≤ 4294967295

  abbrev pub document_of : Task → Document
  document_of t = document_by t.same_shape t.same_arguments image

  -- what stands in the words where these rows are done
  pub record Shows (t : Task) (rows : List ℕ) (s : List ℕ) (x : Expansion) : Type 0 where
    pub number : x.number ≡ t.number
    pub queue : Stores s area.queue x.queued (t.starts ++ queued (document_of t) [] rows)
    pub ahead : t.from ≤ x.listed
    pub list : Stores s (area.store + t.from) (x.listed - t.from) (filter (λ r. is_field ((document_of t).kind_of r)) rows)
    pub seen : (j : ℕ) → j < count_at image fragments
        → eqb (get_or s (area.marks + j) 0) x.number ≡ is_in (count_at image operations + j) (marked (document_of t) [] rows)
    pub marks : MarksBelow image area s (x.number + 1)
    pub room : area.store + t.from + count_at image selections ≤ length s

  -- these rows are done next, whatever was done before
  pub record Steps (rows : List ℕ) (s s' : List ℕ) (x x' : Expansion) : Type 0 where
    pub long : length s' ≡ length s
    pub shows : (t : Task) (before : List ℕ) → Fresh image (before ++ rows) → Shows t before s x → Shows t (before ++ rows) s' x'
    pub frame : (t : Task) (before : List ℕ) → Fresh image (before ++ rows) → Shows t before s x → Framed image area s s' x.listed x'.listed
