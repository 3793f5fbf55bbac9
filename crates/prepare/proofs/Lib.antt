pub mod BytesLaws
pub mod OnesLaws
pub mod RankLaws
pub mod RowSumLaws
pub mod PreparedWord
