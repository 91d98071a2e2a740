-- A card that is held in memory: turn after turn, each on all that is left of the card, gives its sheet. Assumes nothing.
use mathlib.Core.Path.{◌≡◌, refl, sym, ap, ◌∙◌, subst}
use mathlib.Core.Bool.{Bool, true, false, cond}
use Rattle.std.proofs.Common.{Option, Some, None}
use mathlib.Core.List.{List, [], ◌∷◌, ◌++◌, append_assoc, append-nil}
use Prim.Native.Nat.{ℕ, suc, ◌+◌, ◌-◌, ◌/◌, ◌≤◌, ◌<◌, ◌^◌, min}
use native.Mathlib.Omega.{arith}
use lib.Dec.{ltb, leb}
use lib.ListN.{length, take, drop, length-drop}
use lib.Seq.{take_all, drop-drop, length-take-le}
use borrow.Author.Tests.{le-leb, lt-leb, leb-true, leb-false, ltb-true, ltb-false}
use Rattle.lists.specs.Lists.{none?}
use Rattle.lists.proofs.Tests.{test, not-both}
use Rattle.model.specs.Words.{Words}
use Rattle.sheet_text.specs.Put.{Put, line_most}
use Rattle.sheet_text.proofs.Puts.{nothing, join, as-text}
use Rattle.sheet_card.specs.declared.Progress.{Progress}
use Rattle.sheet_card.specs.Ends.{header}
use Rattle.sheet_card.specs.Sheet.{length_at, whole, empty_store}
use Rattle.sheet_card.specs.Turns.{Outcome, last, taken, going, advanced, last_of, turn_of, read_of, version_fits, limit, start_line, started, turn_lines}
use Rattle.sheet_card.specs.Held.{sheet_room, has_room, held_sheet, remains, GoesOn, Going}
use Rattle.sheet_card.proofs.Reading.{Whole, whole_is, record-some}
use Rattle.sheet_card.proofs.Turns.{turn-record, turn_last, going_over}
use Rattle.sheet_card.proofs.Printed.{read_whole, no-lines, one-turn, printed-sheet}

pub tail_all : (n : ℕ) (s : List ℕ) → take (length s - n) (drop n s) ≡ drop n s
tail_all n s = take_all (length s - n) (drop n s) (omega (arith, length-drop n s))

-- ---- a turn

module _ (card : List ℕ) (m : Words) (p : Progress) (at : ℕ) (go : GoesOn card p at) where
  abbrev here : List ℕ
  here = drop p.offset card

  abbrev fewer : ℕ
  fewer = length card - p.records - 1

  turns : length card - p.records ≡ suc fewer
  turns = omega (arith, go.counts, go.inside)

  after_turn : (o : Outcome) → turn_of m p here ≡ o
      → turn_lines fewer o.store o.next (drop (length (read_of here)) here) ≡ remains card o.store o.next
      → remains card m (Some p) ≡ (turn_of m p here).line ++ remains card (turn_of m p here).store (turn_of m p here).next
  after_turn o t e =
      ap (λ (k : ℕ). turn_lines k m (Some p) here) turns
      ∙ one-turn fewer m p here o go.below t
      ∙ ap (λ (l : List ℕ). o.line ++ l) e
      ∙ sym (ap (λ (x : Outcome). x.line ++ remains card x.store x.next) t)

  behind : Whole here → drop (length (read_of here)) here ≡ drop (p.offset + 4 + length_at here) card
  behind w =
      let n : length (read_of here) ≡ 4 + length_at here = ap (λ (l : List ℕ). length l) (read_whole here w) ∙ length-take-le (4 + length_at here) here w.reaches in
      let e : p.offset + length (read_of here) ≡ p.offset + 4 + length_at here = omega (arith, n) in
      drop-drop (length (read_of here)) p.offset card ∙ ap (λ (k : ℕ). drop k card) e

  -- as far as the card goes on
  so-far : (on : Bool) (n : Words) (a : Progress) (k : ℕ) (s : List ℕ) → turn_lines k n (Some a) s ≡ remains card n (Some a)
      → turn_lines k n (cond on (Some a) None) s ≡ remains card n (cond on (Some a) None)
  so-far true n a k s e = e
  so-far false n a k s e = no-lines k n s

  -- the lines that are left are this turn's, and those that are left behind it
  pub turn-remains : remains card m (Some p) ≡ (turn_of m p here).line ++ remains card (turn_of m p here).store (turn_of m p here).next
  turn-remains =
      test (whole here)
      (λ y. let a = advanced p (length_at here) in let e : fewer ≡ length card - a.records = omega arith in
      after_turn (taken m p here) (turn-record m p here y)
      (so-far (ltb a.offset limit) (taken m p here).store a fewer (drop (length (read_of here)) here)
      (ap (λ (k : ℕ). turn_lines k (taken m p here).store (Some a) (drop (length (read_of here)) here)) e
      ∙ ap (λ (l : List ℕ). turn_lines (length card - a.records) (taken m p here).store (Some a) l) (behind (whole_is here y)))))
      (λ y. after_turn (last m (last_of p (none? here))) (turn_last m p here y) (no-lines fewer m (drop (length (read_of here)) here)))

  record-going : (end : ℕ) → end ≤ at + line_most → Whole here → (q : Progress) → going (advanced p (length_at here)) ≡ Some q → GoesOn card q end
  record-going end h w q e =
      let a = advanced p (length_at here) in
      test (ltb a.offset limit)
      (λ b. let s : Some a ≡ Some q = sym (rw b refl) ∙ e in
      let t : a ≡ q = cc in
      subst (λ (x : Progress). GoesOn card x end) t
      (record {
        counts = omega (arith, go.counts, record-some here w);
        inside = omega (arith, length-drop p.offset card, w.reaches, go.inside);
        below = ltb-true a.offset limit b;
        lines = omega (arith, go.lines, h);
      }))
      (λ b. let s : None ≡ Some q = sym (going_over a (ltb-false a.offset limit b)) ∙ e in absurd (cc))

  pub turn-going : (k : List ℕ) (end : ℕ) → end ≤ at + line_most → sheet_room (length card) ≤ length k → Going card k (turn_of m p here).next end
  turn-going k end h room =
      test (whole here)
      (λ y. subst (λ (o : Outcome). Going card k o.next end) (sym (turn-record m p here y)) (record { on = record-going end h (whole_is here y); room = room }))
      (λ y. subst (λ (o : Outcome). Going card k o.next end) (sym (turn_last m p here y)) (record { on = λ q e. absurd (cc e); room = room }))

  -- what a turn needs
  pub turn-room : (out : List ℕ) → sheet_room (length card) ≤ length out → at + line_most ≤ length out
  turn-room out room = omega (arith, go.counts, go.inside, go.lines, room)

-- ---- turn after turn

-- so far a text was put, and with the lines that are left it is all that was to be put
pub record Printing (card first : List ℕ) (at : ℕ) (m : Words) (p : Option Progress) (out : List ℕ) (end : ℕ) (n : Words) (q : Option Progress) : Type 0 where
  pub text : List ℕ
  pub put : Put first out at end text
  pub all : text ++ remains card n q ≡ remains card m p
  pub going : Going card out q end

pub printing-none : (card out : List ℕ) (at : ℕ) (m : Words) (p : Option Progress) → Going card out p at → Printing card out at m p out at m p
printing-none card out at m p go = record { text = []; put = nothing out at; all = refl; going = go }

module _ {card first : List ℕ} {at : ℕ} {m : Words} {p : Option Progress} {out : List ℕ} {end : ℕ} {n : Words} {q : Option Progress} (now : Printing card first at m p out end n q) where
  -- a turn on the bytes s that are left
  pub printing-turn : (r : Progress) → q ≡ Some r → (s k : List ℕ) (e : ℕ) (n' : Words) (q' : Option Progress) → s ≡ drop r.offset card → Put out k end e (turn_of n r s).line → e ≤ end + line_most
      → n' ≡ (turn_of n r s).store → q' ≡ (turn_of n r s).next → Printing card first at m p k e n' q'
  printing-turn r on s k e n' q' is put h en eq =
      let go = now.going.on r on in
      let t : turn_of n r (drop r.offset card) ≡ turn_of n r s = ap (λ (l : List ℕ). turn_of n r l) (sym is) in
      let f : (turn_of n r s).line ++ remains card n' q' ≡ remains card n q =
      (λ i. (turn_of n r s).line ++ remains card (en i) (eq i))
      ∙ sym (ap (remains card n) on ∙ turn-remains card n r end go ∙ ap (λ (x : Outcome). x.line ++ remains card x.store x.next) t) in
      record {
        text = now.text ++ (turn_of n r s).line;
        put = join now.put put;
        all = append_assoc now.text (turn_of n r s).line (remains card n' q') ∙ ap (λ (l : List ℕ). now.text ++ l) f ∙ now.all;
        going =
            subst (λ (x : Option Progress). Going card k x e) (sym eq)
            (subst (λ (x : Outcome). Going card k x.next e) t
            (turn-going card n r end go k e h (subst (λ (z : ℕ). sheet_room (length card) ≤ z) (sym put.kept) now.going.room)));
      }

  pub printing-end : q ≡ None → Put first out at end (remains card m p)
  printing-end e = as-text now.put (sym (append-nil now.text) ∙ ap (λ (x : Option Progress). now.text ++ remains card n x) (sym e) ∙ now.all)

-- ---- the whole sheet

pub room-is : (card out : List ℕ) → leb (length card / 5 + 2) (length out / 128) ≡ has_room card out
unfolding has_room
room-is card out = test (leb (length card / 5 + 2) (length out / 128))
    (λ y. y ∙ sym (le-leb (sheet_room (length card)) (length out) (omega (arith, leb-true (length card / 5 + 2) (length out / 128) y))))
    (λ y. y ∙ sym (lt-leb (sheet_room (length card)) (length out) (omega (arith, leb-false (length card / 5 + 2) (length out / 128) y))))

pub first_byte : (s : List ℕ) (n : ℕ) → n ≡ min (length s) 1 → take n s ≡ take 1 s
first_byte [] n e = let z : n ≡ 0 = omega (arith, e) in ap (λ (k : ℕ). take k []) z
first_byte (x ∷ s) n e = let z : n ≡ 1 = omega (arith, e) in ap (λ (k : ℕ). take k (x ∷ s)) z

fits-some : (s : List ℕ) → version_fits (take 1 s) ≡ true → 1 ≤ length s
unfolding version_fits
fits-some [] e = absurd (not-both e refl)
fits-some (x ∷ s) e = omega arith

start-lines : (card : List ℕ) (m : Words) (fits : Bool) → remains card m (started fits) ≡ turn_lines (length card) m (started fits) (drop 1 card)
start-lines card m true = let z : length card - 0 ≡ length card = omega arith in ap (λ (n : ℕ). turn_lines n m (started true) (drop 1 card)) z
start-lines card m false = sym (no-lines (length card) m (drop 1 card))

module _ (card first : List ℕ) (room : has_room card first ≡ true) where
  enough : sheet_room (length card) ≤ length first
  unfolding has_room
  enough = leb-true (sheet_room (length card)) (length first) room

  pub header-room : line_most ≤ length first
  header-room = omega (arith, enough)

  pub start-room : {head : ℕ} {out : List ℕ} → head ≤ line_most → Put first out 0 head header → head + line_most ≤ length out
  start-room {head} {out} h put = omega (arith, enough, h, put.kept)

  module _ (v out k : List ℕ) (head end : ℕ) (p : Option Progress) (is : v ≡ take 1 card) (put : Put out k head end (start_line (version_fits v))) (next : p ≡ started (version_fits v)) where
    fits-end : version_fits v ≡ true → end ≡ head
    fits-end e = omega (arith, put.ends, ap (λ (b : Bool). length (start_line b)) e)

    begins : head ≤ line_most → (b : Bool) → version_fits v ≡ b → (q : Progress) → started b ≡ Some q → GoesOn card q end
    begins h true e q f =
        let g : record { records = 0; offset = 1 } ≡ q = cc in
        subst (λ (x : Progress). GoesOn card x end) g
        (record { counts = omega arith; inside = fits-some card (ap version_fits (sym is) ∙ e); below = omega arith; lines = omega (arith, fits-end e, h) })
    begins h false e q f = absurd (cc f)

    -- after the version byte
    pub start-going : head ≤ line_most → length out ≡ length first → Going card k p end
    start-going h l = record {
      on = λ q e. begins h (version_fits v) refl q (sym next ∙ e);
      room = subst (λ (n : ℕ). sheet_room (length card) ≤ n) (sym (put.kept ∙ l)) enough;
    }

    pub sheet-put : {r : ℕ} {last : List ℕ} {m : Words} → length first < 2 ^ 64 → m ≡ empty_store → Put first out 0 head header → Put k last end r (remains card m p)
        → Put first last 0 r (held_sheet card first)
    sheet-put {r} {last} {m} small e h t =
        let fits = version_fits (take 1 card) in
        as-text (join h (join put t))
        ((λ i. header ++ (start_line (version_fits (is i)) ++ remains card (e i) ((next ∙ ap (λ (l : List ℕ). started (version_fits l)) is) i)))
        ∙ ap (λ (l : List ℕ). header ++ (start_line fits ++ l)) (start-lines card empty_store fits)
        ∙ printed-sheet card (omega (arith, enough, small))
        ∙ rw room refl)

pub no_room : (card out : List ℕ) → has_room card out ≡ false → Put out out 0 0 (held_sheet card out)
no_room card out e = as-text (nothing out 0) (rw e refl)
