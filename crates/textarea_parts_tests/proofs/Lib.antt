mod RowLists
mod RangeCases
mod FragmentCases
