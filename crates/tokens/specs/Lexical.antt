-- The lexical rules of Hanoi texts (02, S-2), said over places of the text s: what `stands`, `number_at` and `name_bytes` decide.
--   Run p s i j        from place i to place j stand bytes of the kind p, as many as there are
--   BytesAt s w i      from place i on stand the bytes w
--   IsToken w s i j    from place i on white space, and then the token w up to place j; a letter or digit that it begins with touches none before it
--   IsByte b s i j     white space, and then the byte b up to place j: a mark, or a letter behind one
--   IsNumber s i v j   white space, and then the number v up to place j: all digits there are, no leading zero
--   IsName s i j       white space, and then a quoted name up to place j
--   NoToken, NoByte, NoNumber   none stands there
-- `IsByte` and `IsNumber` have no rule about touching: in the grammars of labels and files they stand behind a colon or a mark only. Shown by `token_lexical`, `byte_lexical`,
-- `number_lexical` and `name_lexical`. Assumes nothing.
use Rattle.std.specs.Prelude.{◌≡◌, Bool, true, false, List, [], ◌∷◌, ℕ, ◌+◌, ◌<◌, length, get_or, drop}
use Rattle.tokens.specs.Tokens.{white, byte_before, alphanumeric, digit, value, name_byte}

pub data Run (p : ℕ → Bool) (s : List ℕ) : ℕ → ℕ → Type 0 where
  run_ends : {i j : ℕ} → p (get_or s i 0) ≡ false → i ≡ j → Run p s i j
  run_on : {i j : ℕ} → p (get_or s i 0) ≡ true → Run p s (i + 1) j → Run p s i j

pub data BytesAt (s : List ℕ) : List ℕ → ℕ → Type 0 where
  no_byte : {i : ℕ} → BytesAt s [] i
  byte : {b : ℕ} {w : List ℕ} {i : ℕ} → i < length s → get_or s i 0 ≡ b → BytesAt s w (i + 1) → BytesAt s (b ∷ w) i

pub data IsToken (w s : List ℕ) (i j : ℕ) : Type 0 where
  token : {a : ℕ} → Run (λ b. white b) s i a → BytesAt s w a
      → ((alphanumeric (byte_before s a) ≡ true) × (alphanumeric (get_or s a 0) ≡ true) → ⊥) → j ≡ a + length w → IsToken w s i j

pub data IsByte (b : ℕ) (s : List ℕ) (i j : ℕ) : Type 0 where
  is_byte : {a : ℕ} → Run (λ c. white c) s i a → get_or s a 0 ≡ b → j ≡ a + 1 → IsByte b s i j

pub data IsNumber (s : List ℕ) (i v j : ℕ) : Type 0 where
  is_number : {a : ℕ} → Run (λ b. white b) s i a → digit (get_or s a 0) ≡ true
      → ((get_or s a 0 ≡ 0x30) × (digit (get_or s (a + 1) 0) ≡ true) → ⊥) → Run (λ b. digit b) s a j → v ≡ value 0 (drop a s) → IsNumber s i v j

pub data IsName (s : List ℕ) (i j : ℕ) : Type 0 where
  is_name : {a b : ℕ} → IsToken (0x22 ∷ []) s i a → Run (λ c. name_byte c) s a b → get_or s b 0 ≡ 0x22 → j ≡ b + 1 → IsName s i j

abbrev pub NoToken : List ℕ → List ℕ → ℕ → Type 0
NoToken w s i = (j : ℕ) → IsToken w s i j → ⊥

abbrev pub NoByte : ℕ → List ℕ → ℕ → Type 0
NoByte b s i = (j : ℕ) → IsByte b s i j → ⊥

abbrev pub NoNumber : List ℕ → ℕ → Type 0
NoNumber s i = (v j : ℕ) → IsNumber s i v j → ⊥
