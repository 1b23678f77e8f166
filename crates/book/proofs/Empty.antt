-- The empty book keeps the empty history.
use Rattle.std.proofs.Common.{ℕ, ◌≤◌, [], sym, refl, subst, arith}
use mathlib.Core.Bool.{false≢true}
use lib.ListN.{length-replicate, get_or-replicate}
use Rattle.book.specs.declared.pages.Page.{Page}
use Rattle.book.specs.declared.views.View.{View}
use Rattle.book.specs.Pages.{empty_view, empty_page, empty_book}
use Rattle.book.specs.Kept.{OwnKept, ViewKept, PageKept, Kept}

own : OwnKept empty_page 0 []
own = record {
  few = omega arith;
  counted = refl;
  acts = omega arith;
  stricts = refl;
  written = refl;
  writes = λ k e. absurd (false≢true e);
  low = λ k e. absurd (false≢true e);
  last_room = length-replicate {A = ℕ} 64 0;
  last = λ a l. get_or-replicate 64 a 0 0 l;
  notified = refl;
  notifies = λ k e. absurd (false≢true e);
  waits = refl;
}

view : ViewKept empty_view [] []
view = record { room = length-replicate {A = ℕ} 64 0; within = omega arith; passed = λ k e. absurd (false≢true e); reached = λ a l. get_or-replicate 64 a 0 0 l }

pub empty-kept : (T : ℕ) → T ≤ 8 → Kept T empty_book []
empty-kept T le = record {
  threads = le;
  room = length-replicate 8 empty_page;
  pages = λ t l. subst (λ (p : Page). PageKept T t p []) (sym (get_or-replicate 8 t empty_page _ (omega arith)))
      (record {
        own = own;
        view_room = length-replicate 8 empty_view;
        views = λ u m ne. subst (λ (v : View). ViewKept v [] []) (sym (get_or-replicate 8 u empty_view _ (omega arith))) view;
      });
}
