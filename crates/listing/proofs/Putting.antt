-- Bytes written into a page, one piece behind the other.
use Rattle.std.proofs.Common.{◌≡◌, ℕ, ◌+◌, ◌≤◌, List, [], ◌∷◌, ◌++◌, length, take, drop, sym, ap, ◌∙◌, append_assoc, append-nil, arith, length-append}
use Rattle.std.proofs.Math.ListN.{set}
use Rattle.std.proofs.lemmas.List.{set-append_right, length-take-le, take_at, drop_at, drop-drop}
use Rattle.terms.specs.Lent.{onto}
use Rattle.listing.specs.Pages.{put_at}

-- one piece behind another is both in one
pub put_behind : (at n : ℕ) (xs ys page : List ℕ) → n ≡ at + length xs → at + length xs ≤ length page → put_at n ys (put_at at xs page) ≡ put_at at (xs ++ ys) page
put_behind at n xs ys page e l =
    let front : List ℕ = take at page ++ xs in
    let rest : List ℕ = drop (length xs) (drop at page) in
    let whole : put_at at xs page ≡ front ++ rest = sym (append_assoc (take at page) xs rest) in
    let long : length front ≡ n = omega (arith, length-append (take at page) xs, length-take-le at page (omega arith)) in
    let near : take n (put_at at xs page) ≡ front = ap (take n) whole ∙ take_at front rest n long in
    let far : drop n (put_at at xs page) ≡ rest = ap (drop n) whole ∙ drop_at front rest n long in
    let last : drop (length ys) rest ≡ drop (length (xs ++ ys)) (drop at page) =
    drop-drop (length ys) (length xs) (drop at page) ∙ ap (λ (m : ℕ). drop m (drop at page)) (let q = length-append xs ys in omega arith) in
    ap (λ (zs : List ℕ). zs ++ onto ys (drop n (put_at at xs page))) near ∙ ap (λ (zs : List ℕ). front ++ onto ys zs) far ∙ ap (λ (zs : List ℕ). front ++ (ys ++ zs)) last
    ∙ append_assoc (take at page) xs (ys ++ drop (length (xs ++ ys)) (drop at page))
    ∙ ap (λ (zs : List ℕ). take at page ++ zs) (sym (append_assoc xs ys (drop (length (xs ++ ys)) (drop at page))))

-- three numbers of six columns, and a line feed in the place of the last blank
pub line_is : (x y z w : List ℕ) → w ≡ x ++ (y ++ (z ++ [])) → length w ≡ 18 → set (w ++ 32 ∷ []) 18 10 ≡ x ++ (y ++ (z ++ 10 ∷ []))
line_is x y z w e l = rw (set-append_right w (32 ∷ []) 18 18 10 l (omega arith)) (rw e (simp (append-nil, append_assoc)))
