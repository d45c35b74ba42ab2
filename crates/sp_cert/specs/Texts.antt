-- The bytes of a certificate that was worked out by hand, of genesis and two blocks on it. Its ids are not those of its
-- blocks; to read it needs none.
use Rattle.std.specs.Prelude.{ℕ, List, [], ◌∷◌, ◌++◌, replicate, pos, negsuc}
use Rattle.sp_ids.specs.Key.{number_of}
use Rattle.sp_block.specs.Block.{ReadBlock}
use Rattle.sp_model.specs.declared.profile.Profile.TheVariants.{One}
use Rattle.sp_cert.specs.Certificate.{Certificate}
use Rattle.sp_cert.specs.Format.{name}

-- version, salt, nonce, no parents, no transactions
abbrev pub genesis_bytes : List ℕ
genesis_bytes = 1 ∷ (replicate 16 0 ++ 0 ∷ 0 ∷ 0 ∷ [])

-- the same with this salt and one parent
abbrev pub child_bytes : ℕ → List ℕ
child_bytes salt = 1 ∷ salt ∷ (replicate 15 0 ++ (1 ∷ (replicate 32 7 ++ 0 ∷ 0 ∷ [])))

-- all but the last vote: 218 bytes
abbrev pub front : List ℕ
front =
    name ++ (1 ∷ 3 ∷ 0 ∷ (20 ∷ 0 ∷ 0 ∷ 0 ∷ (genesis_bytes ++ (52 ∷ 0 ∷ 0 ∷ 0 ∷ (child_bytes 1 ++ (52 ∷ 0 ∷ 0 ∷ 0 ∷ (child_bytes 2
    ++ (replicate 32 8 ++ (replicate 32 9 ++ (1 ∷ 1 ∷ 0 ∷ 255 ∷ 255 ∷ 1 ∷ 0 ∷ []))))))))))

-- the certificate that these bytes and a last vote of +1 are the text of
abbrev pub block : ℕ → List ℕ → ReadBlock
block id bytes = record { id = id; bytes = bytes; salt = 0; nonce = 0; parents = []; txs = [] }

abbrev pub certificate : Certificate
certificate = record {
  profile = One;
  blocks = block 10 genesis_bytes ∷ block 11 (child_bytes 1) ∷ block 12 (child_bytes 2) ∷ [];
  x = number_of (replicate 32 8);
  y = number_of (replicate 32 9);
  sign = pos 0;
  worlds = record { number = 65535; votes = pos 0 ∷ negsuc 0 ∷ pos 1 ∷ [] } ∷ [];
}
